-- `negotiation::bits_at` meets its promise: the octets passed so far, each in its turn. Assumes nothing.
use borrow.Author.Rules.{rules}
use mathlib.Core.Path.{◌≡◌, refl, ◌∙◌, subst}
use mathlib.Core.List.{List}
use Prim.Native.Nat.{ℕ, ◌*◌, min}
use Rattle.std.proofs.lemmas.Fn.{fold_over, slice_gives, fronts}
use Rattle.limits.specs.Limits.{limit_most, payload_most}
use Rattle.negotiation.specs.Negotiation.{bits_from, bits_in}
use Rattle.negotiation.proofs.Bits.{bits-more}
use Rattle.negotiation.proofs.bits_at.Goals as goal

pub returns : goal.returns
unfolding bits_from
returns c =
    subst (λ (v : List ℕ). min c.fold.result (payload_most limit_most * 8) ≡ min (bits_in v) (payload_most limit_most * 8))
    (c.iter.ensures.rest ∙ c.value_at.ensures)
    (fold_over fronts (λ y. y.now) _ (λ v n. min n (payload_most limit_most * 8) ≡ min (bits_in v) (payload_most limit_most * 8)) _
    (λ v a x b f' j k. (bits-more v x.now a b j (search rules), search rules)) _ _ 0 _ (slice_gives c.iter.result) refl c.fold.ensures.ran)
