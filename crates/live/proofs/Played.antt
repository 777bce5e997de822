-- A caller that knows of the receiver only what its promise says: whatever answers the promise allows, what it reads is
-- what the decoder says. Assumes nothing.
use mathlib.Core.Path.{◌≡◌, refl, sym, ap, ap₂, ◌∙◌}
use mathlib.Core.Bool.{true}
use mathlib.Core.List.{List, [], ◌∷◌}
use Prim.Native.Nat.{ℕ}
use lib.ListN.{length, take, drop}
use Rattle.refusal.specs.Answer.{Answer}
use Rattle.limits.specs.Limits.{is_limit}
use Rattle.receiver.specs.Held.{Held, Usable, places}
use Rattle.receiver.specs.Call.{Took, received, code_took}
use Rattle.live.specs.Stretches.{heard_line}
use Rattle.live.specs.Calls.{after_all, Worked, outs_by, with_outs, offers, Roomy}
use Rattle.live.specs.Calls.{read_out, Round, played, Kept, round_offers}
use Rattle.live.proofs.Steps.{fresh}
use Rattle.live.proofs.Answered.{call-reads}
use Rattle.live.proofs.Cuts.{passed, all-passed}
use Rattle.live.proofs.Decoder.{it-is-the-decoder}
use Rattle.live.proofs.Called.{fresh-usable}

module _ (N : ℕ) where
  -- calls that the promise allows are those of the definition: any record, any limit, any outputs
  pub played-offers : (h : Held) (s : List ℕ) (cs : List Round) → Kept N h s cs
      → played h s cs ≡ offers N h s (round_offers cs)
  unfolding played Kept offers round_offers
  played-offers h s [] kept = refl
  played-offers h s (c ∷ cs) kept =
      let x : Answer Took = received N h (take c.octets s) (length c.output) in
      let (read, count, held) = call-reads N h (take c.octets s) c.output kept.0 in
      let rest : List ℕ = drop (code_took c.answer) s in
      let more : Held → List ℕ → Worked = λ f q. offers N f q (round_offers cs) in
      ap (with_outs (read_out c.answer c.after)) (played-offers c.held rest cs kept.1)
      ∙ ap (λ (l : List (Answer (List ℕ))). with_outs l (more c.held rest)) read
      ∙ ap₂ (λ (f : Held) (n : ℕ). with_outs (outs_by x) (more f (drop n s))) held count

  module _ (limit : is_limit N ≡ true) where
    -- from any record that is not refused: once nothing is left, every octet was taken once, in order
    pub promise-passed : (h : Held) (s : List ℕ) (cs : List Round) → Usable h → Roomy N (round_offers cs) → Kept N h s cs
        → (played h s cs).left ≡ [] → played h s cs ≡ passed N h s []
    promise-passed h s cs usable roomy kept none =
        let same = played-offers h s cs kept in
        same
        ∙ all-passed N limit h s (round_offers cs) usable roomy (ap (λ (w : Worked). w.left) (sym same) ∙ none)

    -- (a), over the promise itself: from a fresh record, once nothing is left, what was read is what the decoder says
    pub promise-decoder : (m s : List ℕ) (cs : List Round) → length m ≡ places → Roomy N (round_offers cs)
        → Kept N (fresh m) s cs → (played (fresh m) s cs).left ≡ []
        → ((played (fresh m) s cs).outs ≡ heard_line N s) × ((played (fresh m) s cs).held ≡ after_all (fresh m) s)
    promise-decoder m s cs store roomy kept none =
        let all = promise-passed (fresh m) s cs (fresh-usable m store) roomy kept none in (
          ap (λ (w : Worked). w.outs) all ∙ it-is-the-decoder N limit m store s,
          ap (λ (w : Worked). w.held) all,
        )
