-- What was opened, is live and has ended, number by number.
use Rattle.std.proofs.Common.{◌≡◌, ℕ, List, [], ◌∷◌, ◌++◌, length, sym, ap, subst₂, arith}
use Rattle.agreement.proofs.Pieces.{append-none, not-cons, alone}
use Rattle.agreement.specs.Key.{Opening}
use Rattle.agreement.specs.Agreement.{Line, never, running, over}

-- one more opens
pub line-opens : {O L : List Opening} {E : List ℕ} (x : Opening) (a b : List Opening) → Line O L E → O ≡ [] → L ≡ a ++ b → Line (x ∷ O) (a ++ (x ∷ b)) E
line-opens x a b never o e = let p = append-none a b (sym e) in subst₂ (λ u v. Line (x ∷ []) (u ++ (x ∷ v)) []) (sym p.0) (sym p.1) (running x)
line-opens x a b (running y) o e = absurd (not-cons y [] o)
line-opens x a b (over y n) o e = absurd (not-cons y [] o)

-- one that is live ends
pub line-ends : {O L : List Opening} {E : List ℕ} (y : Opening) (n : ℕ) (a b : List Opening) → Line O L E → L ≡ a ++ (y ∷ b) → Line O (a ++ b) (n ∷ E)
line-ends y n a b never e = absurd (not-cons y b (append-none a (y ∷ b) (sym e)).1)
line-ends y n a b (running x) e =
    let l = ap length e in
    let p = alone a y b (omega arith) in
    subst₂ (λ u v. Line (x ∷ []) (u ++ v) (n ∷ [])) (sym p.before) (sym p.after) (over x n)
line-ends y n a b (over x m) e = absurd (not-cons y b (append-none a (y ∷ b) (sym e)).1)
