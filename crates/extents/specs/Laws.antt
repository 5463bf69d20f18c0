-- What a kind of target must keep. Assumes nothing.
use Rattle.std.specs.Prelude.{◌≡◌, ℕ, ◌+◌, Bool, true, cond, Some, None, Option}

-- Advancing by 0 changes nothing, and by i and then by j is by i + j; `same` tells equal targets; what an advanced target fits, the target fits.
pub record Laws {T : Type 0} (advanced : T → ℕ → T) (same : T → T → Bool) (fits : T → Bool) : Type 0 where
  pub none : (t : T) → advanced t 0 ≡ t
  pub twice : (t : T) (i j : ℕ) → advanced (advanced t i) j ≡ advanced t (i + j)
  pub alike : (t u : T) → same t u ≡ true → t ≡ u
  pub itself : (t : T) → same t t ≡ true
  pub narrows : (t : T) (n : ℕ) → fits (advanced t n) ≡ true → fits t ≡ true

-- A target, if its width holds it.
abbrev pub fitting : {T : Type 0} → (T → Bool) → T → Option T
fitting fits t = cond (fits t) (Some t) None
