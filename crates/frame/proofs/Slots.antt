-- A frame written over another.
use Rattle.std.proofs.Common.{◌≡◌, ℕ, zero, suc, ◌+◌, ◌*◌, ◌/◌, ◌<◌, ◌≤◌, List, ◌++◌, length, get_or, take, drop, mul-zero, drop-drop, length-append, length-take, length-drop, IsSome, IsOk, Ok, Err, Result, sym, refl, ap, ◌∙◌, inl, inr, arith}
use Rattle.std.specs.Result.{result_ok}
use Rattle.std.specs.Simd.{first_chunks}
use Rattle.std.proofs.lemmas.List.{drop_at, length-take-le, drop-take}
use Rattle.std.proofs.lemmas.Slice.{take-put_mid_below, drop-put_mid}
use Rattle.std.proofs.lemmas.Bool.{cases_lt}
use Rattle.link.specs.declared.message.Message.{Message}
use Rattle.frame.specs.Frames.{frame_of, read_of}
use Rattle.frame.specs.Rows.{read_at, unused_of, written}
use Rattle.frame.proofs.Round.{round}

pub read_here : (bs : List ℕ) (p : ℕ) (m : Message) → 15 * p ≤ length bs → read_at (written bs p m) p ≡ Ok m
read_here bs p m h =
    let rest = drop_at (take (15 * p) bs) (frame_of m ++ drop 15 (drop (15 * p) bs)) (15 * p) (length-take-le (15 * p) bs h) in
    ap (λ l. read_of (take 15 l)) rest ∙ round m

pub read-other : (bs : List ℕ) (p : ℕ) (m : Message) (k : ℕ) → 15 * p ≤ length bs → (k ≡ p → ⊥) → read_at (written bs p m) k ≡ read_at bs k
read-other bs p m k h apart =
    ap read_of (elim (cases_lt k p) [
      | inl low ↦ sym (drop-take (15 * k) 15 (written bs p m)) ∙ ap (drop (15 * k)) (take-put_mid_below (15 * p) 15 bs (frame_of m) (15 * k + 15) (omega arith) h) ∙ drop-take (15 * k) 15 bs
      | inr high ↦ ap (take 15) (drop-put_mid (15 * p) 15 bs (frame_of m) (15 * k) (omega arith) h (omega arith))
    ])

-- the chunks of n are those that a read finds one by one
pub get_or-first_chunks : (n k : ℕ) (xs : List ℕ) (i : ℕ) (d : List ℕ) → i < k → get_or (first_chunks n k xs) i d ≡ take n (drop (n * i) xs)
get_or-first_chunks n zero xs i d h = absurd (omega arith)
get_or-first_chunks n (suc k) xs zero d h = rw mul-zero refl
get_or-first_chunks n (suc k) xs (suc i) d h =
    let next : n * suc i ≡ n + n * i = omega arith in
    get_or-first_chunks n k (drop n xs) i d (omega arith) ∙ ap (take n) (drop-drop (n * i) n xs ∙ ap (λ a. drop a xs) (sym next))

length-written : (bs : List ℕ) (p : ℕ) (m : Message) → 15 * p + 15 ≤ length bs → length (written bs p m) ≡ length bs
length-written bs p m h = simp (length-append, length-take, length-drop) (omega arith)

-- the bytes after the last whole frame stay
pub unused_of-written : (bs : List ℕ) (p : ℕ) (m : Message) → p < length bs / 15 → unused_of (written bs p m) ≡ unused_of bs
unused_of-written bs p m h =
    let same : length (written bs p m) ≡ length bs = length-written bs p m (omega arith) in
    ap (λ n. drop (15 * (n / 15)) (written bs p m)) same
    ∙ drop-put_mid (15 * p) 15 bs (frame_of m) (15 * (length bs / 15)) (omega arith) (omega arith) (omega arith)

pub ok_where_some : {T E : Type 0} (r : Result T E) → IsSome (result_ok r) → IsOk r
ok_where_some (Ok x) h = refl
ok_where_some (Err e) h = h
