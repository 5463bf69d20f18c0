-- Extents that an iterator gives, checked each after the one before. Assumes nothing.
use Rattle.std.proofs.Common.{Iter, ◌≡◌, ℕ, Bool, true, false, ◌&&◌, List, [], ◌∷◌, Option, Some, None, sym, ap, subst, ◌∙◌}
use Rattle.std.specs.Iterator.{AlwaysYields}
use Rattle.std.proofs.lemmas.Bool.{and_left}
use Rattle.extents.specs.declared.extent.Extent.{Extent}
use Rattle.extents.specs.declared.target.Place.{Place}
use Rattle.objects.specs.Seen.{extent_at, follows, chained}
use Rattle.std.proofs.iter.Yields.{fronts, Copied-slice}
use Rattle.std.specs.Fn.{Called}
use Rattle.std.specs.Slice.Iter.{iter_rest}
use Rattle.std.specs.Iterator.Adapters.{map_source, map_callee, copied_source, copied_steps}
use Rattle.std.specs.declared.iter.Map.{Map}
use Rattle.std.specs.declared.iter.Copied.{Copied}
use Rattle.std.proofs.lemmas.Iterator.{maps, YieldsList-from_map, YieldsList-from_slice}
use Rattle.objects.specs.Seen.{extents_said}
use denote.Param.Members.{Mut}
use denote.Ref.{Bor}

-- what is left of the iterator may stand after the last extent if and only if the whole list may stand
pub record Chains {S : Type 0} (steps : S → Option (Extent Place) → S → Type 0) (number blocks : ℕ) (s : S) (last : Extent Place) (whole : Bool) : Type 0 where
  pub rest : List (Extent Place)
  pub gives : AlwaysYields steps {B = Extent Place} (λ x. x) s rest
  pub same : chained number blocks last rest ≡ whole

pub chains_more : {S : Type 0} (steps : S → Option (Extent Place) → S → Type 0) (number blocks : ℕ) (s j : S) (last x : Extent Place) (whole : Bool)
    → steps s (Some x) j → follows number blocks last x ≡ true → Chains steps number blocks s last whole → Chains steps number blocks j x whole
chains_more steps number blocks s j last x whole step good c = go c.rest c.gives c.same
  where
    go : (rest : List (Extent Place)) → AlwaysYields steps {B = Extent Place} (λ x. x) s rest → chained number blocks last rest ≡ whole → Chains steps number blocks j x whole
    go [] gives same = absurd (gives x j step)
    go (y ∷ ys) gives same =
        let here = gives.1 x j step in
        let step_is : chained number blocks last (x ∷ ys) ≡ chained number blocks x ys = ap (λ b. b && chained number blocks x ys) good in
        record { rest = ys; gives = here.1; same = sym step_is ∙ ap (λ e. chained number blocks last (e ∷ ys)) here.0 ∙ same }

pub chains_stop : {S : Type 0} (steps : S → Option (Extent Place) → S → Type 0) (number blocks : ℕ) (s j : S) (last x : Extent Place) (whole : Bool)
    → steps s (Some x) j → follows number blocks last x ≡ false → Chains steps number blocks s last whole → false ≡ whole
chains_stop steps number blocks s j last x whole step bad c = go c.rest c.gives c.same
  where
    go : (rest : List (Extent Place)) → AlwaysYields steps {B = Extent Place} (λ x. x) s rest → chained number blocks last rest ≡ whole → false ≡ whole
    go [] gives same = absurd (gives x j step)
    go (y ∷ ys) gives same =
        let here = gives.1 x j step in
        sym (and_left (follows number blocks last x) _ bad) ∙ ap (λ e. chained number blocks last (e ∷ ys)) here.0 ∙ same

pub chains_end : {S : Type 0} (steps : S → Option (Extent Place) → S → Type 0) (number blocks : ℕ) (s j : S) (last : Extent Place) (whole : Bool)
    → steps s None j → Chains steps number blocks s last whole → true ≡ whole
chains_end steps number blocks s j last whole step c = go c.rest c.gives c.same
  where
    go : (rest : List (Extent Place)) → AlwaysYields steps {B = Extent Place} (λ x. x) s rest → chained number blocks last rest ≡ whole → true ≡ whole
    go [] gives same = same
    go (y ∷ ys) gives same = absurd (gives.0 j step)

-- what holds of each list that a copying chain over a slice gives holds of the slice
pub at_copied : (s : Copied (Iter (Extent Place))) (table : List (Extent Place)) (P : List (Extent Place) → Type 0)
    → ((table : List (Extent Place)) → AlwaysYields (copied_steps fronts) {B = Extent Place} (λ x. x) s table → P table) → iter_rest (copied_source s) ≡ table → P table
at_copied s table P holds source = subst P source (holds (iter_rest (copied_source s)) (Copied-slice s))

-- what holds of each list that a chain over parts gives holds of what the parts say
pub at_said : {F : Type 0} (g : Mut F (Bor (List ℕ) × Unit {0}) (Extent Place)) (s : Map (Iter (List ℕ)) F) (f : F) (parts : List (List ℕ)) (P : List (Extent Place) → Type 0)
    → ((table : List (Extent Place)) → AlwaysYields (maps fronts g) {B = Extent Place} (λ x. x) s table → P table)
    → iter_rest (map_source s) ≡ parts → map_callee s ≡ f
    → ((x : Bor (List ℕ)) (r : Extent Place) (q : F) → Called g f (x, tt) r q → (q ≡ f) × (r ≡ extent_at x.now 0)) → P (extents_said parts)
at_said g s f parts P holds source callee says = holds (extents_said parts) (YieldsList-from_map g (λ part. extent_at part 0) (YieldsList-from_slice parts source) callee says).runs
