-- The answers' lengths: n+8 and n+5 in the length field for an identity of n octets, and at most 74 octets for an
-- allowed one and for a negotiation. Those to a scan and to an assignment are well formed themselves. Assumes nothing.
use mathlib.Core.Path.{◌≡◌, refl}
use mathlib.Core.Bool.{true, ◌&&◌}
use mathlib.Core.List.{List, [], ◌∷◌}
use Prim.Native.Nat.{ℕ, ◌+◌, ◌≤◌}
use native.Mathlib.Omega.{arith}
use borrow.Author.Tests.{le-leb}
use lib.Dec.{leb}
use lib.ListN.{length, get_or}
use Rattle.octets.specs.Octets.{holds}
use Rattle.identity.specs.Identity.{width, allowed_identity}
use Rattle.identity.proofs.Identities.{allowed-parts}
use Rattle.record.specs.Allowed.{reply_most}
use Rattle.params.specs.Field.{xid_payload, right_length, identifiers, WellFormed, none_twice}
use Rattle.params.proofs.Exact.{once-different}
use Rattle.params.proofs.Kept.{of-both}
use Rattle.control.specs.declared.AskedFor.{AskedFor}
use Rattle.xid.specs.Addressing.{identity_id, address_id, kind_id, addressing}
use Rattle.xid_answer.specs.Answer.{scan_params, assignment_params, scan_answer, assignment_answer, negotiation_answer}
use Rattle.xid_answer.proofs.Stored.{scan-length, assignment-length, length-scan, length-assignment}
use Rattle.xid_answer.proofs.Stored.{length-negotiation}

-- "length field n+8"
pub scan-field : (i : List ℕ) (a : ℕ) → get_or (scan_answer i a) 2 0 ≡ length i + 8
unfolding scan_answer xid_payload
scan-field i a = scan-length i a

-- "length field n+5"
pub assignment-field : (i : List ℕ) → get_or (assignment_answer i) 2 0 ≡ length i + 5
unfolding assignment_answer xid_payload
assignment-field i = assignment-length i

-- at most 17 octets, so it fits a reply
pub negotiation-short : (a : AskedFor) (N : ℕ) → length (negotiation_answer a N) ≤ reply_most
negotiation-short a N = omega (arith, length-negotiation a N)

module _ (i : List ℕ) (ok : allowed_identity i ≡ true) where
  pub scan-short : (a : ℕ) → length (scan_answer i a) ≤ reply_most
  scan-short a = omega (arith, length-scan i a, (allowed-parts i ok).most)

  pub assignment-short : length (assignment_answer i) ≤ reply_most
  assignment-short = omega (arith, length-assignment i, (allowed-parts i ok).most)

  long : leb 1 (length i) && leb (length i) width ≡ true
  long =
      of-both (le-leb 1 (length i) (omega (arith, (allowed-parts i ok).least)))
      (le-leb (length i) width (allowed-parts i ok).most)

  pub scan-formed : (a : ℕ) → WellFormed addressing (scan_answer i a) (scan_params i a)
  unfolding scan_answer scan_params right_length identifiers none_twice holds
  scan-formed a =
      record { octets = refl; right = (long, (refl, (refl, tt))); once = once-different (identity_id ∷ address_id ∷ kind_id ∷ []) refl }

  pub assignment-formed : WellFormed addressing (assignment_answer i) (assignment_params i)
  unfolding assignment_answer assignment_params right_length identifiers none_twice holds
  assignment-formed = record { octets = refl; right = (long, (refl, tt)); once = once-different (identity_id ∷ kind_id ∷ []) refl }
