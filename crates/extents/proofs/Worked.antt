-- The worked examples. Assumes nothing.
use Rattle.std.proofs.Common.{◌≡◌, ℕ, [], ◌∷◌, sym, refl, ◌∙◌, arith}
use Rattle.extents.specs.Kinds.{place_advanced, place_laws}
use Rattle.extents.specs.Map.{target_at}
use Rattle.extents.specs.Answers.{overlaid}
use Rattle.extents.specs.Examples.{Examples, stretch}
use Rattle.extents.proofs.Tables.{one_writing, table}
use Rattle.extents.proofs.Joining.{joined_target}
use Rattle.extents.proofs.Insertion.{inserted_target}

split_targets : (b : ℕ) → target_at place_advanced (stretch 0 3 5 24 ∷ (stretch 3 2 6 32 ∷ (stretch 5 3 5 2584 ∷ []))) b ≡ overlaid place_advanced (stretch 3 2 6 32) (target_at place_advanced (stretch 0 8 5 24 ∷ [])) b
split_targets = inserted_target place_laws (stretch 3 2 6 32) (stretch 0 8 5 24 ∷ []) (table place_laws (stretch 0 8 5 24 ∷ []) refl) (omega arith)

pub examples : Examples
examples = record {
  splits = (refl, split_targets, λ zs t h. one_writing place_laws zs _ t refl (λ b. h b ∙ sym (split_targets b)));
  joins = (refl, refl, joined_target place_laws (stretch 0 2 5 24) (stretch 2 1 5 1048 ∷ []));
  stays_apart = refl;
}
