-- What alarm status, information and get tilt are answered, and what a busy get tilt: 01, "Messages", the column "Data
-- out after 0x00", and that nothing changes. Assumes nothing.
use mathlib.Core.Path.{◌≡◌, refl, ap, ◌∙◌}
use mathlib.Core.Bool.{Bool, true, false}
use mathlib.Core.List.{List, [], ◌∷◌, ◌++◌}
use Prim.Native.Nat.{ℕ, ◌+◌, ◌/◌, ◌%◌}
use lib.ListN.{length, drop}
use mir.Val.{of_z}
use mir.Syntax.{w16}
use Rattle.octets.specs.Octets.{holds}
use Rattle.refusal.specs.Answer.{answered}
use Rattle.antenna.specs.declared.Alarms.{Alarms}
use Rattle.antenna.specs.declared.Antenna.{Antenna}
use Rattle.antenna.specs.Alarms.{codes_among, codes_of}
use Rattle.antenna.specs.Motions.{busy_of}
use Rattle.record.specs.declared.Plate.{Plate}
use Rattle.record.specs.Allowed.{identity_of, product_of, hardware_of, software_of}
use Rattle.payload.specs.Payloads.{success_of}
use Rattle.payload.proofs.Laws.{success-is, failure-is}
use Rattle.tilt.specs.Tilts.{tilt_octets}
use Rattle.information.specs.Information.{information_of}
use Rattle.information.proofs.Laws.{information-is}
use Rattle.message.specs.Messages.{drive_checks, checks, in_table, taken_by}
use Rattle.message.specs.Carried.{replies, done_by, outcome, carried_of}

-- the octets of a success: "Code, data length (two octets, low first), data", "Data out after 0x00"
abbrev pub success_says : ℕ → List ℕ → List ℕ
success_says code out = code ∷ (1 + length out) % 256 ∷ (1 + length out) / 256 % 256 ∷ 0x00 ∷ out

-- "raised alarms, ascending": of the six alarms 01 names, each that is raised tells its code
abbrev pub if_raised : Bool → ℕ → List ℕ
if_raised true code = code ∷ []
if_raised false code = []

codes-more : (c : ℕ) (cs : List ℕ) (b : Bool) (fs : List Bool)
    → codes_among (c ∷ cs) (b ∷ fs) ≡ if_raised b c ++ codes_among cs fs
unfolding codes_among
codes-more c cs true fs = refl
codes-more c cs false fs = refl

codes-last : (c : ℕ) (b : Bool) → codes_among (c ∷ []) (b ∷ []) ≡ if_raised b c
unfolding codes_among
codes-last c true = refl
codes-last c false = refl

pub codes-are : (a b c d e f : Bool) → codes_of (a ∷ b ∷ c ∷ d ∷ e ∷ f ∷ [])
    ≡ if_raised a 0x02 ++ (if_raised b 0x03 ++ (if_raised c 0x0E
    ++ (if_raised d 0x0F ++ (if_raised e 0x11 ++ if_raised f 0x27))))
codes-are a b c d e f =
    codes-more 0x02 _ a _
    ∙ ap (λ (x : List ℕ). if_raised a 0x02 ++ x)
    (codes-more 0x03 _ b _
    ∙ ap (λ (x : List ℕ). if_raised b 0x03 ++ x)
    (codes-more 0x0E _ c _
    ∙ ap (λ (x : List ℕ). if_raised c 0x0E ++ x)
    (codes-more 0x0F _ d _
    ∙ ap (λ (x : List ℕ). if_raised d 0x0F ++ x)
    (codes-more 0x11 _ e _ ∙ ap (λ (x : List ℕ). if_raised e 0x11 ++ x) (codes-last 0x27 f)))))

module _ (p : Plate) (n : Antenna) (told : Alarms) (sub : Bool) (m : List ℕ) where
  -- "0x04 alarm status: none in; raised alarms, ascending"
  pub status-tells : m ≡ 0x04 ∷ 0 ∷ 0 ∷ []
      → carried_of p n told sub m ≡ replies (success_says 0x04 (codes_of n.drive.raised.flags)) n told sub
  unfolding carried_of outcome answered checks drive_checks holds in_table taken_by done_by
  status-tells e = rw (e, ← success-is 0x04 (codes_of n.drive.raised.flags))

  -- "0x05 information: none in; product, serial, hardware, software, each after its length"; the serial number is the
  -- identity behind its "2 vendor octets"
  pub information-tells : m ≡ 0x05 ∷ 0 ∷ 0 ∷ [] → (product identity hardware software : List ℕ)
      → product_of p ≡ product → identity_of p ≡ identity → hardware_of p ≡ hardware → software_of p ≡ software
      → carried_of p n told sub m
      ≡ replies
      (success_says 0x05
      ((length product ∷ product) ++ ((length (drop 2 identity) ∷ drop 2 identity)
      ++ ((length hardware ∷ hardware) ++ (length software ∷ software)))))
      n told sub
  unfolding carried_of outcome answered checks drive_checks holds in_table taken_by done_by
  information-tells e q i h s a b c d =
      does e
      ∙ ap (λ (x : List ℕ). replies x n told sub)
      (success-is 0x05 (information_of p) ∙ ap (success_says 0x05) (information-is p q i h s a b c d))
    where
      does : m ≡ 0x05 ∷ 0 ∷ 0 ∷ []
          → carried_of p n told sub m ≡ replies (success_of 0x05 (information_of p)) n told sub
      does e = rw e

  -- "0x34 get tilt: none in; 2 octets": the tilt in 16 bits, low octet first
  pub tilt-tells : m ≡ 0x34 ∷ 0 ∷ 0 ∷ [] → busy_of n.motion ≡ false
      → carried_of p n told sub m
      ≡ replies
      (0x34 ∷ 3 ∷ 0 ∷ 0x00 ∷ of_z w16 n.drive.tilt.tenths % 256 ∷ of_z w16 n.drive.tilt.tenths / 256 % 256 ∷ []) n told sub
  unfolding carried_of outcome answered checks drive_checks holds in_table taken_by done_by tilt_octets
  tilt-tells e idle = rw (e, idle, success-is 0x34 (tilt_octets n.drive.tilt))

  -- "busy, 0x05": "Set and get tilt are busy while moving or while a result waits"
  pub tilt-busy : m ≡ 0x34 ∷ 0 ∷ 0 ∷ [] → busy_of n.motion ≡ true
      → carried_of p n told sub m ≡ replies (0x34 ∷ 2 ∷ 0 ∷ 0x0B ∷ 0x05 ∷ []) n told sub
  unfolding carried_of outcome answered checks drive_checks holds in_table taken_by done_by
  tilt-busy e busy = rw (e, busy, ← failure-is 0x34 0x05)
