-- The record, driven by answers, is the walk, run by them. Assumes nothing.
use mathlib.Core.Path.{◌≡◌, refl, ap, ap₂, ◌∙◌}
use mathlib.Core.Bool.{Bool, true, false, cond}
use mathlib.Core.List.{List, [], ◌∷◌, ◌++◌}
use mathlib.Core.Option.{some}
use Prim.Native.Nat.{ℕ, zero, suc, ◌*◌}
use native.Mathlib.Omega.{arith}
use lib.Dec.{ltb}
use lib.ListN.{length, drop, replicate}
use lib.Seq.{take-append_seam}
use Rattle.identity.specs.Bits.{Bits}
use Rattle.identity.specs.Identity.{width, depth, octets_of}
use Rattle.identity.proofs.Words.{length-packed}
use Rattle.refusal.specs.Answer.{answered, state_after}
use Rattle.walk.specs.Beginnings.{then}
use Rattle.walk.specs.Machine.{next, Phase, asking, complete, doubtful, limited, full, named}
use Rattle.walk.specs.Machine.{Walk, go_on, settle, start, listing, noted, step_in, step, run}
use Rattle.scan.specs.Record.{list_most, flat, phase_of, state_of, beginning_of, walk_of, record_of}
use Rattle.scan.specs.Steps.{state_at}
use Rattle.scan.specs.Scan.{fresh, ended, over, reported, driven}
use Rattle.scan.specs.declared.Scan.{Scan}
use Rattle.scan.specs.declared.State.TheVariants.{Asking, Limit}
use Rattle.scan.proofs.Overs.{open-over}
use Rattle.scan.proofs.Reports.{report-steps}
use Rattle.scan.proofs.Rows.{Wide, wide-more, rows-flat}
use Rattle.scan.proofs.Moves.{made}
use Rattle.whole_scan.proofs.Bounded.{Bounded, settle-bounded, noted-bounded, asking-open}

pub phase-back : (x : Phase) → phase_of (state_of x) (named x) ≡ x
unfolding phase_of state_of named
phase-back (asking p q w) = refl
phase-back complete = refl
phase-back doubtful = refl
phase-back (limited p) = refl
phase-back (full p) = refl

pub walk-record : (s : Scan) (v : Walk (List ℕ)) → Wide v.listed → walk_of (record_of s v) ≡ v
walk-record s v h =
    ap₂ (λ (x : List (List ℕ)) (y : Phase). record { limit = v.limit; count = v.count; listed = x; phase = y })
    (rows-flat v.listed (drop (length (flat v.listed)) s.list) h)
    (ap (phase_of (state_of v.phase))
    (take-append_seam (named v.phase) (drop (length (named v.phase)) s.beginning))
    ∙ phase-back v.phase)

noted-wide : (l c : ℕ) (f : List (List ℕ)) (p : Bits) (q w a : Bool) → Wide f
    → Wide (noted octets_of depth list_most l c f p q w a).listed
unfolding noted listing
noted-wide l c f p q w false h = h
noted-wide l c f p q w true h = by_tests (ltb (length p) depth) (ltb (length f) list_most)
  where
    by_tests : (t u : Bool)
        → Wide (cond t (settle l (suc c) f false w (some (then p false)))
        (cond u (settle l (suc c) (f ++ (octets_of p ∷ [])) false w (next p))
        (record { limit = l; count = suc c; listed = f; phase = full p }))).listed
    by_tests true u = h
    by_tests false true = wide-more f (octets_of p) h (length-packed width p)
    by_tests false false = h

-- the record r is the walk v, in its bounds
pub record Driven (r : Scan) (v : Walk (List ℕ)) : Type 0 where
  pub base : Scan
  pub is : r ≡ record_of base v
  pub wide : Wide v.listed
  pub bounded : Bounded v

module _ (heard : Bits → Bool) where
  one_answer : (s : Scan) (l c : ℕ) (f : List (List ℕ)) (p : Bits) (q w : Bool) → Wide f
      → Bounded (record { limit = l; count = c; listed = f; phase = asking p q w })
      → (let r = record_of s (record { limit = l; count = c; listed = f; phase = asking p q w }) in
      state_after (reported r (heard (beginning_of r))) r)
      ≡ record_of (record_of s (record { limit = l; count = c; listed = f; phase = asking p q w }))
      (noted octets_of depth list_most l c f p q w (heard p))
  unfolding step named noted step_in
  one_answer s l c f p q w h b =
      let v : Walk (List ℕ) = record { limit = l; count = c; listed = f; phase = asking p q w } in
      let r : Scan = record_of s v in
      report-steps r (heard (beginning_of r)) (open-over r (asking-open s l c f p q w b))
      ∙ ap₂ (λ (x : Walk (List ℕ)) (y : Bits). record_of r (step octets_of depth list_most x (heard y))) (walk-record s v h)
      (take-append_seam p (drop (length p) s.beginning))

  pub drives : (n : ℕ) (s : Scan) (l c : ℕ) (f : List (List ℕ)) (x : Phase)
      → Wide f → Bounded (record { limit = l; count = c; listed = f; phase = x })
      → Driven (driven heard n (record_of s (record { limit = l; count = c; listed = f; phase = x })))
      (run octets_of depth list_most heard n (record { limit = l; count = c; listed = f; phase = x }))
  unfolding driven run step step_in named state_of ended over reported state_after answered
  drives zero s l c f x h b = record { base = s; is = refl; wide = h; bounded = b }
  drives (suc n) s l c f complete h b = drives n s l c f complete h b
  drives (suc n) s l c f doubtful h b = drives n s l c f doubtful h b
  drives (suc n) s l c f (limited p) h b = drives n s l c f (limited p) h b
  drives (suc n) s l c f (full p) h b = drives n s l c f (full p) h b
  drives (suc n) s l c f (asking p q w) h b =
      let r : Scan = record_of s (record { limit = l; count = c; listed = f; phase = asking p q w }) in
      let v : Walk (List ℕ) = noted octets_of depth list_most l c f p q w (heard p) in
      rw (one_answer s l c f p q w h b)
      (drives n r v.limit v.count v.listed v.phase (noted-wide l c f p q w (heard p) h)
      (noted-bounded l c f p q w (heard p) b.lists b.begins))

new-record : (limit : ℕ) → fresh limit ≡ record_of (fresh limit) (start limit)
unfolding fresh state_at go_on named state_of flat
new-record limit = by-test (ltb 0 limit)
  where
    by-test : (t : Bool)
        → made limit 0 0 (replicate (width * list_most) 0) 0 (replicate depth false) (cond t (Asking false false) Limit)
        ≡ record_of (fresh limit)
        (record { limit = limit; count = 0; listed = []; phase = cond t (asking [] false false) (limited []) })
    by-test true = refl
    by-test false = refl

-- what the code does from `new` on is what the walk does
pub drives-new : (heard : Bits → Bool) (n limit : ℕ)
    → Driven (driven heard n (fresh limit)) (run octets_of depth list_most heard n (start limit))
drives-new heard n limit =
    rw (new-record limit)
    (drives heard n (fresh limit) limit 0 [] (go_on limit 0 false false (some [])) tt
    (settle-bounded limit 0 [] false false (some []) (omega arith) (omega arith)))
