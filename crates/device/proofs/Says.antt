-- What an allowed device says of a frame, octet by octet (conduct/specs/Spelt), and the three answers to an XID, whole.
-- Assumes nothing.
use mathlib.Core.Path.{◌≡◌, ap₂}
use mathlib.Core.Bool.{true}
use mathlib.Core.List.{List, [], ◌∷◌, ◌++◌}
use mathlib.Core.Option.{Option, some}
use Prim.Native.Nat.{ℕ, ◌+◌, ◌≤◌}
use lib.ListN.{length, drop}
use Rattle.refusal.specs.Answer.{gives}
use Rattle.record.specs.declared.Link.TheVariants.{AddressAssigned}
use Rattle.record.specs.declared.Device.{Device}
use Rattle.record.specs.Allowed.{identity_of, limit_of, allowed_device}
use Rattle.record.specs.Changes.{ended_as, limited_to}
use Rattle.params.specs.Field.{Param, WellFormed}
use Rattle.negotiation.specs.Negotiation.{negotiating, agreed_limit}
use Rattle.xid.specs.Meaning.{Answers}
use Rattle.link.specs.Frames.{Everyone, OwnXid}
use Rattle.conduct.specs.Endings.{Assigns}
use Rattle.conduct.specs.Comes.{Comes, scans, assigns, negotiates, left}
use Rattle.conduct.specs.Spelt.{scan_said, assignment_said, agreed_said, negotiation_said, octets_said}
use Rattle.conduct.proofs.Comes.{comes-leaves}
use Rattle.conduct.proofs.Says.{frame-octets}
use Rattle.limits.specs.Limits.{frame_most}
use Rattle.device.specs.Judge.{reacts, judged}
use Rattle.device.proofs.Exact.{judge-answer}

module _ (d : Device) (f : List ℕ) (room : ℕ) (allowed : allowed_device d ≡ true)
    (fits : frame_most (limit_of d) ≤ room) where
  -- whatever the frame is to the device: the device that its case leaves, and the octets that its case has
  pub judged-octets : (c : Comes d f)
      → judged d f room ≡ gives (record { device = left d f c; frame = octets_said d f c })
  unfolding reacts
  judged-octets c =
      (judge-answer d f room _).1 (
        allowed,
        fits,
        ap₂ (λ (e : Device) (x : Option (List ℕ)). record { device = e; frame = x })
            (comes-leaves d f c) (frame-octets d f c),
      )

  -- "Answer, in any state: 1 (unpadded, n octets), 2, 4 in that order; length field n+8"
  pub scan-octets : Everyone d f → Answers (identity_of d.plate) (drop 2 f) → (a : ℕ) (i : List ℕ)
      → d.station.desk.address ≡ a → identity_of d.plate ≡ i
      → judged d f room
      ≡ gives
      (record {
        device = d;
        frame = some (a ∷ 0xBF ∷ 0x81 ∷ 0xF0 ∷ (length i + 8) ∷ 1 ∷ length i ∷ (i ++ (2 ∷ 1 ∷ a ∷ 4 ∷ 1 ∷ 0x01 ∷ [])));
      })
  unfolding left octets_said scan_said
  scan-octets w m a i x y = rw (← x, ← y) (judged-octets (scans w m))

  -- "Then any session ends, the address is taken, the state is AddressAssigned, and the answer from the new address
  -- has 1 and 4; length field n+5"
  pub assignment-octets : (a : ℕ) → Assigns d f a → (i : List ℕ) → identity_of d.plate ≡ i
      → judged d f room
      ≡ gives
      (record {
        device = ended_as d a AddressAssigned;
        frame = some (a ∷ 0xBF ∷ 0x81 ∷ 0xF0 ∷ (length i + 5) ∷ 1 ∷ length i ∷ (i ++ (4 ∷ 1 ∷ 0x01 ∷ [])));
      })
  unfolding left octets_said assignment_said
  assignment-octets a w i y = rw (← y) (judged-octets (assigns a w))

  -- 02 (iv): "the device answers": what was asked, ascending, by `agreed_said`; and the frame limit agreed on from now on
  pub negotiation-octets : (ps : List Param) → OwnXid d f → WellFormed negotiating (drop 2 f) ps → (n : ℕ)
      → agreed_limit (limit_of d) ps ≡ n
      → judged d f room
      ≡ gives
      (record {
        device = limited_to d n;
        frame = some
            (d.station.desk.address
            ∷ 0xBF ∷ 0x81 ∷ 0x80 ∷ length (agreed_said ps n) ∷ agreed_said ps n);
      })
  unfolding left octets_said negotiation_said
  negotiation-octets ps w m n y = rw (← y) (judged-octets (negotiates ps w m))
