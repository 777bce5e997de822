-- What the definitions of the row of drives say, in the words of docs/BENCH.md and with its numbers.
-- Assumes nothing.
use mathlib.Core.Path.{◌≡◌, refl, sym, ap, ◌∙◌}
use mathlib.Core.Bool.{Bool, true, false, cond, not, ◌&&◌, false≢true}
use mathlib.Core.List.{List, [], ◌∷◌, ◌++◌}
use mathlib.Core.Logic.{◌↔◌}
use Prim.Native.Nat.{ℕ, ◌+◌, ◌-◌, ◌≤◌, ◌<◌}
use native.Mathlib.Omega.{arith}
use lib.Dec.{leb, eqb}
use lib.ListN.{length}
use lib.Seq.{take_all, take-append_seam, take-append-add, drop-append_seam, drop-append-add}
use borrow.Author.Tests.{le-leb, ne_eqb, leb-true, eqb-false, not-true}
use mir.Val.{to_z}
use mir.Syntax.{w16}
use Rattle.octets.proofs.Words.{and_parts}
use Rattle.octets.proofs.Bounds.{pair_parts}
use Rattle.refusal.specs.Answer.{Answer, gives, refuses}
use Rattle.antenna.specs.declared.Angle.{Angle}
use Rattle.tilt.specs.Tilts.{angle_of}
use Rattle.record.specs.declared.Device.{Device}
use Rattle.record.specs.declared.Event.TheVariants.{Stopped, Raised, Cleared}
use Rattle.record.specs.Allowed.{limit_of}
use Rattle.record.specs.Fresh.{fresh_of}
use Rattle.record.specs.Accounts.{FreshAccount}
use Rattle.record.proofs.Accounts.{fresh-is}
use Rattle.bus.specs.declared.Row.{Row}
use Rattle.script.specs.Commands as command
use Rattle.drives.specs.Drives.{ScriptAnswer, no_command, no_device, full, device, outcome, answer, state, limit}
use Rattle.drives.specs.Drives.{◌saying◌, ◌leaving◌, value, tilt_of, fresh_with, fresh_by, added, adds, is_device}
use Rattle.drives.specs.Drives.{device_at, event_of, tells_limit, drives, to_device, for_device, obeyed}

-- ---- tilts

-- the tilt whose 16 bits are v; the page: "a tilt outside 16 bits signed .. `error number`"
abbrev pub signed : ℕ → Angle
signed v = record { tenths = to_z w16 v }

tilt-signed : (v : ℕ) → v < 65536 → tilt_of v ≡ signed v
unfolding tilt_of angle_of
tilt-signed v h = ap signed (pair_parts v h)

-- ---- events

-- "`stopped K T` .. the motor stopped at T"
pub event-stopped : (v : ℕ) → v < 65536 → event_of command.stopped v ≡ Stopped (signed v)
unfolding event_of
event-stopped v h = ap Stopped (tilt-signed v h)

-- "`raise K A` .. alarm A (decimal) rises"
pub event-raise : (v : ℕ) → event_of command.raise v ≡ Raised v
unfolding event_of
event-raise v = refl

-- "`clear K A` .. alarm A (decimal) .. falls"
pub event-clear : (v : ℕ) → event_of command.clear v ≡ Cleared v
unfolding event_of
event-clear v = refl

-- ---- devices

is_full : ScriptAnswer → Bool
is_full no_command = false
is_full no_device = false
is_full full = true
is_full (device k) = false
is_full (outcome x) = false
is_full (answer x) = false
is_full (state place) = false
is_full (limit n) = false

added-not-full : (row : Row) (x : Answer Device) → is_full (added row x).reply ≡ false
unfolding added is_full
added-not-full row (gives d) = refl
added-not-full row (refuses k) = refl

full-there : (row : Row) (b : Bool) (x : Answer Device) → (cond b (row saying full) (added row x)).reply ≡ full → b ≡ true
unfolding is_full
full-there row true x e = refl
full-there row false x e = absurd (false≢true (sym (added-not-full row x) ∙ ap is_full e))

-- "up to 32 tilt drives"; "a 33rd gets `error full`"
pub row-full-exactly : (row : Row) (v os : List ℕ) → (adds row v os).reply ≡ full ↔ 32 ≤ row.count
unfolding adds
row-full-exactly row v os = (
  λ e. leb-true 32 row.count (full-there row (leb 32 row.count) (fresh_by v os) e),
  λ h. rw (le-leb 32 row.count h),
)

-- "K counts from 1"; "A K that is a number but no device of the bench .. is `error device`"
pub device-exactly : (n k : ℕ) → n ≤ 32 → is_device n k ≡ true ↔ (1 ≤ k) × (k ≤ n)
unfolding is_device
device-exactly n k few = (
  λ e.
      let (first, rest) = and_parts (not (eqb k 0)) (leb k 32 && leb k n) e in
      let some = eqb-false k 0 (not-true (eqb k 0) first) in
      let most = leb-true k n (and_parts (leb k 32) (leb k n) rest).1 in
      (omega (arith, some), most),
  λ w. rw (ne_eqb k 0 (λ e. omega (arith, e, w.0)), le-leb k 32 (omega (arith, few, w.1)), le-leb k n w.1),
)

-- ---- `limit`

-- "`limit K` the frame limit of the link of device K", and neither the row nor the lent output changes
pub limit-says : (row : Row) (v os o : List ℕ) → row.count ≤ 32 → 1 ≤ value v 1 → value v 1 ≤ row.count
    → obeyed command.limit row v os o ≡ (row saying limit (limit_of (device_at row (value v 1 - 1)))) leaving o
unfolding obeyed for_device to_device drives tells_limit
limit-says row v os o few least most = rw ((device-exactly row.count (value v 1) few).1 (least, most))

-- ---- `device`

module _ (i p h s : List ℕ) (lowest highest present : ℕ) where
  -- the values of its words, from 1 on: of a text where its octets end, of a tilt its 16 bits
  abbrev pub words_of : List ℕ
  words_of =
      0 ∷ length i ∷ (length i + length p) ∷ (length i + (length p + length h))
      ∷ (length i + (length p + (length h + length s))) ∷ lowest ∷ highest ∷ present ∷ []

  -- "`device IDENTITY PRODUCT HARDWARE SOFTWARE LOWEST HIGHEST PRESENT` the four texts in HEX"
  pub fresh-words : lowest < 65536 → highest < 65536 → present < 65536
      → fresh_with words_of (i ++ (p ++ (h ++ s)))
      ≡ fresh_of i p h s (record { lowest = signed lowest; highest = signed highest; present = signed present })
  unfolding fresh_with
  fresh-words a b c =
      rw (
        tilt-signed lowest a,
        tilt-signed highest b,
        tilt-signed present c,
        take-append_seam i (p ++ (h ++ s)),
        take-append-add i (p ++ (h ++ s)) (length p),
        take-append-add i (p ++ (h ++ s)) (length p + length h),
        take-append-add i (p ++ (h ++ s)) (length p + (length h + length s)),
        take-append_seam p (h ++ s),
        take-append-add p (h ++ s) (length h),
        take-append-add p (h ++ s) (length h + length s),
        take-append_seam h s,
        take-append-add h s (length s),
        take_all (length s) s (omega arith),
        drop-append_seam i p,
        drop-append-add i (p ++ h) (length p),
        drop-append_seam p h,
        drop-append-add i (p ++ (h ++ s)) (length p + length h),
        drop-append-add p (h ++ s) (length h),
        drop-append_seam h s,
      )

  -- and so each of them in its place of the device made
  pub fresh-made : lowest < 65536 → highest < 65536 → present < 65536 → (d : Device)
      → fresh_with words_of (i ++ (p ++ (h ++ s))) ≡ gives d
      → FreshAccount i p h s (record { lowest = signed lowest; highest = signed highest; present = signed present }) d
  fresh-made a b c d e = fresh-is i p h s _ d (sym (fresh-words a b c) ∙ e)
