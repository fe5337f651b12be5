-- Each call keeps the laws.
use Rattle.std.proofs.Common.{◌≡◌, ℕ, Bool, true, false, cond, ltb, List, [], ◌∷◌, ◌++◌, length, is_some, find, Some, None, Ok, Err, Option, Result, sym, refl, ap, subst, inl, inr, arith}
use Rattle.std.specs.Option.{ok_or as okOr}
use Rattle.fields.specs.declared.call.CallAttributes.{CallAttributes}
use Rattle.fields.specs.declared.key.Key.{Key}
use Rattle.fields.specs.declared.refusal.Refusal.{Refusal}
use Rattle.fields.specs.declared.refusal.Refusal.TheVariants.{NothingThere, PartyBusy}
use Rattle.fields.specs.Fields.{checked}
use Rattle.fields.specs.Values.{identity_of}
use Rattle.link.specs.declared.message.Kind.{Kind}
use Rattle.link.specs.declared.message.Kind.TheVariants as kind
use Rattle.link.specs.declared.message.Message.{Message}
use Rattle.link.specs.declared.message.NoCause.{NoCause}
use Rattle.link.specs.Messages.{after}
use Rattle.link.specs.Queue.{Queue}
use Rattle.terminating.specs.declared.making.TerminatingSettings.{TerminatingSettings}
use Rattle.terminating.specs.declared.office.Line.{Line}
use Rattle.terminating.specs.declared.office.Monitor.{Monitor}
use Rattle.terminating.specs.declared.office.Stage.{Stage}
use Rattle.terminating.specs.declared.office.Stage.TheVariants.{Waiting, Offered, Suspended, Ringing}
use Rattle.terminating.specs.declared.outcomes.Ending.{Ending}
use Rattle.terminating.specs.declared.outcomes.Outcome.{Outcome}
use Rattle.terminating.specs.declared.outcomes.Outcome.TheVariants.{Connected, Busy, Failed}
use Rattle.terminating.specs.declared.plans.Plan.{Plan}
use Rattle.terminating.specs.Hearing as hearing
use Rattle.terminating.specs.Hearing.{hear_step, plan_of, plan_new, plan_at, plan_for, applied, reply_answer, replied, hear_first, is_busy, admission}
use Rattle.terminating.specs.Laws.{Call, line_call, serve_call, outcome_call, hear_call, leaves, run, OneEngaged, Lawful}
use Rattle.terminating.specs.Making.{fresh}
use Rattle.terminating.specs.Office.{Office, with_monitors, has_key, is_ringing, engaged}
use Rattle.terminating.specs.Steps as steps
use Rattle.terminating.specs.Steps.{Answer, if_sent, sending_answer, tell, known_line, line_by, line_step, marked_line, offer_to, is_held, earliest_waiting, next_served, serve_by, serve_step, outcome_of, ringing_at, ending_of, ended, outcome_by, outcome_step}
use Rattle.terminating.proofs.Turns.{Turn, kept, erased, stored, turned, offered}

-- what a granted call was granted for
granted : {X Y P : Type 0} (r : Result X Refusal) (f : X → Result Y Refusal) (y : Y) → after r f ≡ Ok y → ((x : X) → r ≡ Ok x → f x ≡ Ok y → P) → P
granted (Ok x) f y e k = k x refl e
granted (Err r) f y e k = absurd (let z : ◌≡◌ {A = ℕ} 0 1 = cc in omega arith)

unless-ok : {X : Type 0} (b : Bool) (e : Refusal) (r : Result X Refusal) (x : X) → cond b (Err e) r ≡ Ok x → (b ≡ false) × (r ≡ Ok x)
unless-ok true e r x at = absurd (let z : ◌≡◌ {A = ℕ} 0 1 = cc in omega arith)
unless-ok false e r x at = (refl, at)

ok_or : {X : Type 0} (o : Option X) (e : Refusal) (x : X) → okOr o e ≡ Ok x → o ≡ Some x
ok_or None e x at = absurd (let z : ◌≡◌ {A = ℕ} 0 1 = cc in omega arith)
ok_or (Some y) e x at = cc

is_none : {X : Type 0} (o : Option X) → is_some o ≡ false → o ≡ None
is_none None e = refl
is_none (Some x) e = absurd (let z : ◌≡◌ {A = ℕ} 0 1 = cc in omega arith)

-- the monitors are changed only where the answer went out
sent : (a : Answer) (s new : Office) → Turn s.monitors new.monitors → Turn s.monitors (if_sent a s new).monitors
sent (Ok x) s new h = h
sent (Err e) s new h = kept s.monitors

line-turn : (s : Office) (r : Result Line Refusal) → Turn s.monitors (line_by s r).1.monitors
line-turn s (Err e) = kept s.monitors
line-turn s (Ok l) = kept s.monitors

offer-turn : (s : Office) (l : Line) (m : Monitor) → offer_to s l ≡ Ok m → Turn s.monitors (steps.offered s m).monitors
offer-turn s l m e =
    let free = unless-ok l.busy PartyBusy _ m e in
    let next = unless-ok (is_held s l) NothingThere (earliest_waiting s l) m free.1 in
    offered l.identity m s.monitors (is_none _ next.0) (ok_or _ NothingThere m next.1)

next-turn : (s : Office) (line : ℕ) (m : Monitor) → next_served s line ≡ Ok m → Turn s.monitors (steps.offered s m).monitors
next-turn s line m e =
    granted (checked 48 identity_of line) _ m e (λ n _ known.
    granted (known_line s n) _ m known (λ l _ next.
    offer-turn s l m next))

serve-turn : (s : Office) (back : Queue) (r : Result Monitor Refusal) → ((m : Monitor) → r ≡ Ok m → Turn s.monitors (steps.offered s m).monitors)
    → Turn s.monitors (serve_by s back r).1.monitors
serve-turn s back (Err e) h = kept s.monitors
serve-turn s back (Ok m) h = sent (sending_answer back) s (steps.offered s m) (h m refl)

ended-turn : (s : Office) (l : Line) (m : Monitor) (o : Outcome) → find (is_ringing l.identity) s.monitors ≡ Some m → Turn s.monitors (ended s l m o).monitors
ended-turn s l m Connected e = erased (is_ringing l.identity) s.monitors
ended-turn s l m Busy e = turned (is_ringing l.identity) m Waiting s.monitors e (inl refl)
ended-turn s l m Failed e = erased (is_ringing l.identity) s.monitors

ending-turn : (s : Office) (line number : ℕ) (x : Ending) → ending_of s line number ≡ Ok x → Turn s.monitors (ended s x.line x.monitor x.outcome).monitors
ending-turn s line number x e =
    granted (checked 48 identity_of line) _ x e (λ n _ told.
    granted (outcome_of number) _ x told (λ o _ known.
    granted (known_line s n) _ x known (λ l _ rung.
    granted (ringing_at s l) _ x rung (λ m found is.
    let same : ◌≡◌ {A = Ending} (record { line = l; monitor = m; outcome = o }) x = cc in
    subst (λ (y : Ending). Turn s.monitors (ended s y.line y.monitor y.outcome).monitors) same
    (ended-turn s l m o (ok_or _ NothingThere m found))))))

outcome-turn : (s : Office) (back : Queue) (r : Result Ending Refusal) → ((x : Ending) → r ≡ Ok x → Turn s.monitors (ended s x.line x.monitor x.outcome).monitors)
    → Turn s.monitors (outcome_by s back r).1.monitors
outcome-turn s back (Err e) h = kept s.monitors
outcome-turn s back (Ok x) h = sent (sending_answer back) s (ended s x.line x.monitor x.outcome) (h x refl)

admitted-turn : (s : Office) (k : Key) (call : CallAttributes) (r : Result (Unit {0}) NoCause) → Turn s.monitors (applied s k (hearing.admitted k call r).change).monitors
admitted-turn s k call (Err cause) = kept s.monitors
admitted-turn s k call (Ok x) =
    let m : Monitor = record { key = k; call = call; stage = Waiting } in
    elim (ltb (length s.monitors) s.places) as (λ b. Turn s.monitors (cond b (with_monitors s (s.monitors ++ m ∷ [])) s).monitors) [
      | true ↦ stored m s.monitors refl
      | false ↦ kept s.monitors
    ]

new-turn : (s : Office) (k : Key) (kind : Kind) → Turn s.monitors (applied s k (plan_new s k kind).change).monitors
new-turn s k (kind.Monitor call) = admitted-turn s k call (admission s k.called call)
new-turn s k _ = kept s.monitors

module _ (s : Office) (k : Key) (m : Monitor) (found : find (has_key k) s.monitors ≡ Some m) where
  abbrev Planned : Plan → Type 0
  Planned p = Turn s.monitors (applied s k p.change).monitors

  suspended-turn : (at : Stage) → Planned (hearing.suspended m at)
  suspended-turn Offered = turned (has_key k) m Suspended s.monitors found (inl refl)
  suspended-turn _ = kept s.monitors

  resumed-turn : (at : Stage) → Planned (hearing.resumed m at)
  resumed-turn Suspended = turned (has_key k) m Waiting s.monitors found (inl refl)
  resumed-turn _ = kept s.monitors

  set-up-turn : (busy : Bool) (at : Stage) → m.stage ≡ at → Planned (hearing.set_up m busy at)
  set-up-turn true Offered is = turned (has_key k) m Waiting s.monitors found (inl refl)
  set-up-turn false Offered is = turned (has_key k) m Ringing s.monitors found (inr (ap engaged is))
  set-up-turn busy _ is = kept s.monitors

  at_turn : (kind : Kind) → Planned (plan_at s m m.stage kind)
  at_turn kind.Suspend = suspended-turn m.stage
  at_turn kind.Resume = resumed-turn m.stage
  at_turn kind.Setup = set-up-turn (is_busy s m.key.called) m.stage refl
  at_turn kind.Close = erased (has_key k) s.monitors
  at_turn _ = kept s.monitors

plan-turn : (s : Office) (msg : Message) (o : Option Monitor) → find (has_key msg.key) s.monitors ≡ o
    → Turn s.monitors (applied s msg.key (plan_for s msg o).change).monitors
plan-turn s msg None e = new-turn s msg.key msg.kind
plan-turn s msg (Some m) e = at_turn s msg.key m e msg.kind

hear-turn : (s : Office) (ms : List Message) (out back : Queue) → Turn s.monitors (hear_first s ms out back).1.monitors
hear-turn s [] out back = kept s.monitors
hear-turn s (m ∷ ms) out back =
    sent (reply_answer back (plan_of s m).reply) s (applied s m.key (plan_of s m).change) (plan-turn s m _ refl)

turn : (s : Office) (x : Call) → Turn s.monitors (leaves s x).monitors
turn s (line_call line mark) = line-turn s (marked_line s line mark)
turn s (serve_call back line) = serve-turn s back (next_served s line) (next-turn s line)
turn s (outcome_call back line number) = outcome-turn s back (ending_of s line number) (ending-turn s line number)
turn s (hear_call out back) = hear-turn s out.waiting out back

always : (from : TerminatingSettings) (calls : List Call) → OneEngaged (run (fresh from) calls).monitors
always from [] = λ n. omega arith
always from (x ∷ xs) = (turn (run (fresh from) xs) x).one (always from xs)

pub lawful : (s : Office) (x : Call) (end : Office) → end ≡ leaves s x → Lawful s x end
lawful s x end e =
    subst (λ o. Lawful s x o) (sym e) (record {
      queues = (turn s x).queues;
      runs = λ from calls at. ap (λ o. leaves o x) at;
      one = λ r. (turn s x).one (subst (λ (o : Office). OneEngaged o.monitors) r.leads (always r.from r.calls));
    })
