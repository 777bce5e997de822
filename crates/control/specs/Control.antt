-- Control octets. 01, "The link".
--   polled c   == "Control octets below have the poll bit set"
--   asked_by c == what the control octet c, its poll bit set, asks; of one whose poll bit is clear it means nothing
--   next_of n  == the number after n: "Numbers run 0 to 7 and round"
--   info_of s r, rr_of r, rnr_of r == the controls of an I-frame, of RR and of RNR, by their numbers N(S) and N(R)
--   xid_control, snrm_control, disc_control == the controls without a number
--   control_for o == the paper's control octet of the order o, for each case; UpTo7 o == the numbers of o are 0 to 7
--   Asks c r   == the code's answer r is what c asks, by these
-- Assumes nothing.
use Rattle.std.specs.Prelude.{◌≡◌, Bool, true, cond, ◌⊎◌, ℕ, ◌+◌, ◌*◌, ◌/◌, ◌%◌, ◌<◌, eqb}
use Rattle.std.proofs.Math.Option.{Option, none, some}
use Rattle.control.specs.declared.Order.{Order}
use Rattle.control.specs.declared.Order.TheVariants.{Xid, Snrm, Disc, Info, Rr, Rnr, Unknown}

-- the bit of value 16
unfoldable pub polled : ℕ → Bool
polled c = eqb (c / 16 % 2) 1

unfoldable pub next_of : ℕ → ℕ
next_of n = (n % 8 + 1) % 8

-- "I is 0x10 + 2·N(S) + 32·N(R), RR 0x11 + 32·N(R), RNR 0x15 + 32·N(R)"
unfoldable pub info_of : ℕ → ℕ → ℕ
info_of ns nr = 0x10 + ns % 8 * 2 + nr % 8 * 32

unfoldable pub rr_of : ℕ → ℕ
rr_of nr = 0x11 + nr % 8 * 32

unfoldable pub rnr_of : ℕ → ℕ
rnr_of nr = 0x15 + nr % 8 * 32

-- "XID (0xBF)", "SNRM 0x93", "DISC 0x53"
abbrev pub xid_control : ℕ
xid_control = 0xBF

abbrev pub snrm_control : ℕ
snrm_control = 0x93

abbrev pub disc_control : ℕ
disc_control = 0x53

-- "any control but XID, SNRM, DISC, I, RR and RNR" has none
unfoldable pub control_for : Order → Option ℕ
control_for Xid = some xid_control
control_for Snrm = some snrm_control
control_for Disc = some disc_control
control_for (Info ns nr) = some (info_of ns nr)
control_for (Rr nr) = some (rr_of nr)
control_for (Rnr nr) = some (rnr_of nr)
control_for Unknown = none

-- "Numbers run 0 to 7"
unfoldable pub UpTo7 : Order → Type 0
UpTo7 Xid = Unit {0}
UpTo7 Snrm = Unit {0}
UpTo7 Disc = Unit {0}
UpTo7 (Info ns nr) = (ns < 8) × (nr < 8)
UpTo7 (Rr nr) = nr < 8
UpTo7 (Rnr nr) = nr < 8
UpTo7 Unknown = Unit {0}

-- an even octet is an I-frame's; of the odd ones the five low bits tell RR and RNR
unfoldable pub numbered_by : ℕ → Order
numbered_by c =
    cond (eqb (c % 2) 0) (Info (c / 2 % 8) (c / 32))
    (cond (eqb (c % 32) 0x11) (Rr (c / 32)) (cond (eqb (c % 32) 0x15) (Rnr (c / 32)) Unknown))

-- with its poll bit set, the order that has this control, or Unknown (`asked-exactly` of proofs/Named)
unfoldable pub asked_by : ℕ → Order
asked_by c =
    cond (eqb c xid_control) Xid (cond (eqb c snrm_control) Snrm (cond (eqb c disc_control) Disc (numbered_by c)))

-- the code's answer r to the octet c, by the paper's control of each order: with the poll bit set, r has this control, or
-- r is Unknown and no order has it
pub record Asks (c : ℕ) (r : Order) : Type 0 where
  pub order : r ≡ asked_by c
  pub control : c < 256 → polled c ≡ true
      → ((r ≡ Unknown) × ((o : Order) → control_for o ≡ some c → ⊥)) ⊎ ((control_for r ≡ some c) × UpTo7 r)
