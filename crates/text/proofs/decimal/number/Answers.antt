use Rattle.std.proofs.Common.{◌<◌, ◌⊎◌, length, get_or, sym, ◌∙◌, inl, inr, arith}
use Rattle.std.proofs.lemmas.Bool.{eqb-false}
use Rattle.text.proofs.Values.{a-digit, no_digit, value-step, value-end, value-below, value_room, sized}
use Rattle.text.proofs.decimal.number.Goals as goal
use Rattle.text.proofs.decimal.number.Goals.{then-digit-lt48-via-then-digit-lt48, then-digit-lt48-via-else-digit-lt48+then-digit-gt57}

pub returns-then-digit-lt48 : goal.returns-then-digit-lt48
returns-then-digit-lt48 c =
    let some : 0 < length c.args.word.now = omega (arith, eqb-false _ _ (sym c.if-is_empty.ensures)) in
    let d = get_or c.args.word.now c.loop-digit.digit-index 0 in
    let out : (d < 48) ⊎ (57 < d) = elim c.then-digit-lt48.branch [
      | then-digit-lt48-via-then-digit-lt48 w ↦ inl (omega arith)
      | then-digit-lt48-via-else-digit-lt48+then-digit-gt57 w ↦ inr (omega arith)
    ] in
    record {
      value = sym (sized c.args.word.now some (omega arith) ∙ c.loop-digit.invariant.0 ∙ value-step _ _ _ _ c.loop-digit-test.true (no_digit d out));
      small = tt;
    }

pub overflow_mul-value : goal.overflow_mul-value
overflow_mul-value c = let room = value_room c.loop-digit.value c.loop-digit.digit-index 14 c.loop-digit.invariant.1 (omega arith) in omega arith

pub overflow_add-value : goal.overflow_add-value
overflow_add-value c = let room = value_room c.loop-digit.value c.loop-digit.digit-index 14 c.loop-digit.invariant.1 (omega arith) in omega arith

pub loop-digit-preserved : goal.loop-digit-preserved
loop-digit-preserved c =
    let d = get_or c.args.word.now c.loop-digit.digit-index 0 in
    let more = a-digit d (omega arith) (omega arith) in (
      rw c.from.ensures (c.loop-digit.invariant.0 ∙ value-step _ _ _ _ c.loop-digit-test.true more),
      value-below _ _ _ c.loop-digit.invariant.1 (omega arith),
    )

pub returns : goal.returns
returns c =
    let some : 0 < length c.args.word.now = omega (arith, eqb-false _ _ (sym c.if-is_empty.ensures)) in
    record {
      value = sym (sized c.args.word.now some (omega arith) ∙ c.loop-digit.invariant.0 ∙ value-end _ _ _ c.loop-digit-test.false);
      small = value_room _ _ 15 c.loop-digit.invariant.1 (omega arith);
    }
