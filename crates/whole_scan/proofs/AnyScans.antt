-- What a scan comes to by any answers at all, of the record that the code makes. Assumes nothing.
use mathlib.Core.Path.{◌≡◌, refl, sym, ap, ◌∙◌}
use mathlib.Core.Bool.{Bool}
use mathlib.Core.List.{List, [], map}
use Prim.Native.Nat.{ℕ, ◌<◌}
use native.Mathlib.Omega.{arith}
use lib.ListN.{take, get_or}
use Rattle.identity.specs.Bits.{Bits}
use Rattle.identity.specs.Identity.{depth, octets_of}
use Rattle.refusal.specs.Answer.{handed_out}
use Rattle.walk.specs.Probes.{Mark, order, beginnings_of, hits}
use Rattle.walk.specs.Machine.{Walk, named, start, run}
use Rattle.walk.specs.Demand.{AnyEnd}
use Rattle.walk.proofs.Answers.{any-answers}
use Rattle.scan.specs.Record.{list_most, state_of, beginning_of}
use Rattle.scan.specs.Scan.{fresh, ended, probe_of, probed, driven}
use Rattle.scan.specs.declared.Scan.{Scan}
use Rattle.whole_scan.specs.Demand.{AnyScan, AnyScans}
use Rattle.scan.proofs.Probes.{probed-open}
use Rattle.whole_scan.proofs.Exactly.{new-driven-exactly}
use Rattle.whole_scan.proofs.Drives.{Driven, drives-new}
use Rattle.whole_scan.proofs.Ends.{full-of, limit-of, complete-of, doubtful-of, ended_of}
use Rattle.whole_scan.proofs.Ends.{count-is, state-is, beginning-is, list-is}

module _ (limit : ℕ) (heard : Bits → Bool) where
  abbrev walk : ℕ → Walk (List ℕ)
  walk n = run octets_of depth list_most heard n (start limit)

  abbrev ms : List Mark
  ms = order heard depth []

  after : (n : ℕ) → Driven (driven heard n (fresh limit)) (walk n)
  after n = drives-new heard n limit

  any : AnyEnd octets_of depth list_most limit heard (walk limit) walk ms
  any = any-answers (List ℕ) octets_of depth list_most limit heard

  abbrev end : Scan
  end = driven heard limit (fresh limit)

  asked : (i : ℕ) → i < end.count → beginning_of (driven heard i (fresh limit)) ≡ get_or (beginnings_of ms) i []
  unfolding order named
  asked i h =
      let (q, w, e) = any.sent i (omega (arith, count-is (after limit))) in beginning-is (after i) ∙ ap named e

  sent : (i : ℕ) → i < end.count → (lent : ℕ)
      → probed (driven heard i (fresh limit)) lent ≡ handed_out (probe_of (get_or (beginnings_of ms) i [])) lent
  sent i h lent =
      sym (probed-open (driven heard i (fresh limit)) lent (((new-driven-exactly heard limit).asks i).1 h)
      (ap probe_of (sym (asked i h))))

  any-scan : AnyScan limit heard (driven heard limit (fresh limit)) (λ i. driven heard i (fresh limit)) ms
  unfolding state_of
  any-scan =
      let d = after limit in
      let x = (walk limit).phase in
      record {
        exactly = new-driven-exactly heard limit;
        count = count-is d ∙ any.count;
        list = list-is d ∙ any.list
            ∙ ap (λ (n : ℕ). map octets_of (take list_most (hits (take n ms)))) (sym (count-is d));
        ends = ap ended (state-is d) ∙ ended_of x any.ended;
        fulls = (
          λ h. let (a, b, c) = (any.fulls _).0 (full-of x (sym (state-is d) ∙ h)) in (a, b),
          λ (a, b). state-is d ∙ ap state_of ((any.fulls _).1 (a, b, refl)),
        );
        full-names = λ h. beginning-is d ∙ sym ((any.fulls _).0 (full-of x (sym (state-is d) ∙ h))).2;
        limits = (
          λ h. ((any.limits _).0 (limit-of x (sym (state-is d) ∙ h))).0,
          λ a. state-is d ∙ ap state_of ((any.limits _).1 (a, refl)),
        );
        limit-names = λ h. beginning-is d ∙ sym ((any.limits _).0 (limit-of x (sym (state-is d) ∙ h))).1;
        doubtfuls = (
          λ h. any.doubtfuls.0 (doubtful-of x (sym (state-is d) ∙ h)),
          λ a. state-is d ∙ ap state_of (any.doubtfuls.1 a),
        );
        completes = (
          λ h. any.completes.0 (complete-of x (sym (state-is d) ∙ h)),
          λ a. state-is d ∙ ap state_of (any.completes.1 a),
        );
        asked = asked;
        sent = sent;
        once = any.once;
      }

pub any-scans : AnyScans
any-scans limit heard = any-scan limit heard
