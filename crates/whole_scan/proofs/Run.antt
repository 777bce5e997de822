-- From any record that is not refused, limit - count answers reach an end, whatever they are. Assumes nothing.
use mathlib.Core.Path.{◌≡◌, refl, sym, ◌∙◌, subst}
use mathlib.Core.Bool.{Bool, true, false, cond, true≢false}
use mathlib.Core.List.{List, [], ◌∷◌, ◌++◌}
use mathlib.Core.Option.{some}
use mathlib.Core.Logic.{◌⊎◌, inl, inr}
use Prim.Native.Nat.{ℕ, suc, ◌+◌}
use native.Mathlib.Omega.{arith}
use lib.Dec.{ltb}
use lib.ListN.{length, length-take}
use Rattle.identity.specs.Bits.{Bits}
use Rattle.identity.specs.Identity.{depth, octets_of}
use Rattle.walk.specs.Beginnings.{then}
use Rattle.walk.specs.Machine.{Phase, asking, complete, doubtful, limited, full, Walk, settle, next, listing, noted}
use Rattle.scan.specs.Record.{list_most, state_of, beginning_of, list_of, record_of}
use Rattle.refusal.specs.Answer.{state_after}
use Rattle.scan.specs.Scan.{ended, reported, reported_all}
use Rattle.scan.specs.Steps.{noted_in}
use Rattle.whole_scan.specs.Demand.{RunsOut}
use Rattle.scan.specs.declared.Scan.{Scan}
use Rattle.scan.specs.declared.State.{State}
use Rattle.scan.specs.declared.State.TheVariants.{Asking, Complete, Doubtful, Limit, Full}
use Rattle.scan.proofs.Overs.{Open, open-parts, open-over, over-ended}
use Rattle.scan.proofs.Reports.{report-stays, report-steps}
use Rattle.scan.proofs.Rows.{length-rows}
use Rattle.scan.proofs.Moves.{noted_step}
use Rattle.whole_scan.proofs.Bounded.{Counts, Bounded, noted-bounded}

-- a scan that has ended stays
stays : (s : Scan) (answers : List Bool) → ended s.state ≡ true → reported_all s answers ≡ s
unfolding reported_all
stays s [] e = refl
stays s (a ∷ answers) e = rw (report-stays s a (over-ended s e)) (stays s answers e)

-- a record that asks has the two flags
flags : (t : State) → ended t ≡ false → (q : Bool) × (w : Bool) × (t ≡ Asking q w)
unfolding ended
flags (Asking q w) e = (q, w, refl)
flags Complete e = absurd (true≢false e)
flags Doubtful e = absurd (true≢false e)
flags Limit e = absurd (true≢false e)
flags Full e = absurd (true≢false e)

-- the record of a walk in its bounds has ended, or takes an answer
ended-or-open : (s : Scan) (v : Walk (List ℕ)) → Bounded v
    → (ended (record_of s v).state ≡ true) ⊎ Open (record_of s v)
unfolding ended state_of
ended-or-open s v b = go v.phase refl
  where
    go : (x : Phase) → v.phase ≡ x → (ended (state_of v.phase) ≡ true) ⊎ Open (record_of s v)
    go (asking p q w) e =
        let asks : ended (state_of v.phase) ≡ false = rw e in
        inr (record {
          asks = asks;
          counts = subst (Counts v.limit v.count) e b.counts;
          lists = b.lists;
          begins = b.begins;
        })
    go complete e = inl (rw e)
    go doubtful e = inl (rw e)
    go (limited p) e = inl (rw e)
    go (full p) e = inl (rw e)

-- an answer that is taken
pub taken : (s : Scan) (a : Bool) → Open s
    → (q : Bool) × (w : Bool) × (state_after (reported s a) s ≡ noted_in s q w a)
taken s a o =
    let (q, w, f) = flags s.state o.asks in
    (q, w, report-steps s a (open-over s o) ∙ sym (noted_step s a f))

pub noted-count : (s : Scan) (q w a : Bool)
    → ((noted_in s q w a).limit ≡ s.limit) × ((noted_in s q w a).count ≡ suc s.count)
unfolding noted listing
noted-count s q w false = (refl, refl)
noted-count s q w true = by_tests (ltb (length (beginning_of s)) depth) (ltb (length (list_of s)) list_most)
  where
    l : ℕ
    l = s.limit

    p : Bits
    p = beginning_of s

    by_tests : (t u : Bool)
        → (let v = cond t (settle l (suc s.count) (list_of s) false w (some (then p false)))
        (cond u (settle l (suc s.count) (list_of s ++ (octets_of p ∷ [])) false w (next p))
        (record { limit = l; count = suc s.count; listed = list_of s; phase = full p })) in
        (v.limit ≡ s.limit) × (v.count ≡ suc s.count))
    by_tests true u = (refl, refl)
    by_tests false true = (refl, refl)
    by_tests false false = (refl, refl)

runs-out : (answers : List Bool) (s : Scan) → Open s → s.limit ≡ s.count + length answers
    → ended (reported_all s answers).state ≡ true
unfolding reported_all
runs-out [] s o e = absurd (omega (arith, o.counts))
runs-out (a ∷ answers) s o e =
    let (q, w, next) = taken s a o in
    let t : Scan = noted_in s q w a in
    let (l, c) = noted-count s q w a in
    let fits =
    noted-bounded s.limit s.count (list_of s) (beginning_of s) q w a
    (omega (arith, length-rows s.listed s.list, o.lists))
    (omega (arith, length-take s.bits s.beginning, o.begins)) in
    subst (λ (r : Scan). ended (reported_all r answers).state ≡ true) (sym next)
    (go t (ended-or-open s _ fits) (λ h. runs-out answers t h (omega (arith, l, c))))
  where
    go : (t : Scan) → (ended t.state ≡ true) ⊎ Open t → (Open t → ended (reported_all t answers).state ≡ true)
        → ended (reported_all t answers).state ≡ true
    go t (inl h) more = rw (stays t answers h) h
    go t (inr h) more = more h

pub run_ends : RunsOut
run_ends s answers e h =
    let o = open-parts s e in runs-out answers s o (omega (arith, o.counts))
