-- Numbers that ascend along a list of keys, where each key has one number.
use Rattle.std.proofs.Common.{◌≡◌, ℕ, suc, ◌<◌, ◌≤◌, Bool, true, false, List, [], ◌∷◌, ◌++◌, sym, refl, ◌∙◌, arith}
use Rattle.std.specs.List.{flat_map}
use Rattle.agreement.proofs.Pieces.{append-none, not-cons}
use Rattle.agreement.proofs.Keys.{same-flip}
use Rattle.agreement.specs.Key.{Key, same}
use Rattle.agreement.specs.State.{only_if}

abbrev pub Numbers : Type 0
Numbers = Key → List ℕ

pub data Asc (num : Numbers) : ℕ → List Key → Type 0 where
  end : {b : ℕ} → Asc num b []
  next : {b : ℕ} {k : Key} {ks : List Key} (n : ℕ) → num k ≡ n ∷ [] → b ≤ n → Asc num (suc n) ks → Asc num b (k ∷ ks)

pub asc-low : {num : Numbers} {b : ℕ} {ks : List Key} (c : ℕ) → c ≤ b → Asc num b ks → Asc num c ks
asc-low c h end = end
asc-low c h (next n e l a) = next n e (omega arith) a

pub asc-drop : {num : Numbers} {b : ℕ} (xs : List Key) (k : Key) (ys : List Key) → Asc num b (xs ++ (k ∷ ys)) → Asc num b (xs ++ ys)
asc-drop {b = b} [] k ys (next n e l a) = asc-low b (omega arith) a
asc-drop (x ∷ xs) k ys (next n e l a) = next n e l (asc-drop xs k ys a)

-- two numberings that agree along a list
abbrev pub Agree : Numbers → Numbers → List Key → Type 0
Agree f g [] = Unit {0}
Agree f g (k ∷ ks) = (f k ≡ g k) × Agree f g ks

pub agree-all : (f g : Numbers) → ((k : Key) → f k ≡ g k) → (ks : List Key) → Agree f g ks
agree-all f g h [] = tt
agree-all f g h (k ∷ ks) = (h k, agree-all f g h ks)

abbrev pub same_at : Key → Key → List Key
same_at k₀ k = only_if (same k k₀) k

pub agree-apart : (f g : Numbers) (k₀ : Key) → ((k : Key) → same k₀ k ≡ false → f k ≡ g k) → (ks : List Key) → flat_map (same_at k₀) ks ≡ [] → Agree f g ks
agree-apart f g k₀ h [] e = tt
agree-apart f g k₀ h (k ∷ ks) e = go (same k k₀) refl (agree-apart f g k₀ h ks p.1)
  where
    p : (same_at k₀ k ≡ []) × (flat_map (same_at k₀) ks ≡ [])
    p = append-none (same_at k₀ k) (flat_map (same_at k₀) ks) e

    go : (b : Bool) → same k k₀ ≡ b → Agree f g ks → Agree f g (k ∷ ks)
    go true t r = absurd (not-cons k [] (rw t at p.0))
    go false t r = (h k (same-flip k k₀ t), r)

pub asc-agree : {f g : Numbers} {b : ℕ} (ks : List Key) → Agree f g ks → Asc f b ks → Asc g b ks
asc-agree [] h end = end
asc-agree (k ∷ ks) h (next n e l a) = next n (sym h.0 ∙ e) l (asc-agree ks h.1 a)

pub asc-snoc : {f g : Numbers} {b : ℕ} (ks : List Key) (k : Key) (n : ℕ) → Agree f g ks → ((j : Key) (m : ℕ) → f j ≡ m ∷ [] → m < n) → g k ≡ n ∷ [] → b ≤ n → Asc f b ks → Asc g b (ks ++ (k ∷ []))
asc-snoc [] k n h below e l end = next n e l end
asc-snoc (x ∷ ks) k n h below e l (next m d p a) = next m (sym h.0 ∙ d) p (asc-snoc ks k n h.1 below e (below x m d) a)

pub asc-only : {f : Numbers} {b : ℕ} (xs : List Key) (q : Bool) (k : Key) (ys : List Key) → Asc f b (xs ++ (only_if q k ++ ys)) → Asc f b (xs ++ ys)
asc-only xs true k ys a = asc-drop xs k ys a
asc-only xs false k ys a = a

asc-above : {f : Numbers} {b : ℕ} (xs : List Key) (k : Key) (ys : List Key) (n : ℕ) → f k ≡ n ∷ [] → Asc f b (xs ++ (k ∷ ys)) → b ≤ n
asc-above [] k ys n e (next m d l a) = let q : m ≡ n = cc in omega arith
asc-above (x ∷ xs) k ys n e (next m d l a) = let r = asc-above xs k ys n e a in omega arith

pub asc-two : {f : Numbers} {b : ℕ} (xs : List Key) (j : Key) (ys : List Key) (k : Key) (zs : List Key) (m n : ℕ) → f j ≡ m ∷ [] → f k ≡ n ∷ [] → Asc f b (xs ++ (j ∷ (ys ++ (k ∷ zs)))) → m < n
asc-two [] j ys k zs m n d e (next i c l a) = let q : i ≡ m = cc in let r = asc-above ys k zs n e a in omega arith
asc-two (x ∷ xs) j ys k zs m n d e (next i c l a) = asc-two xs j ys k zs m n d e a
