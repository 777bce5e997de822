-- Each way out of the decoder's and the writer's tests, over the frame limit N. Assumes nothing.
use mathlib.Core.Path.{◌≡◌, ap, ◌∙◌}
use mathlib.Core.Bool.{Bool, true, false, not}
use mathlib.Core.List.{List, ◌∷◌}
use Prim.Native.Nat.{ℕ, ◌-◌, ◌<◌, ◌≤◌}
use native.Mathlib.Omega.{arith}
use borrow.Author.Tests.{lt-ltb, le-ltb, eq-eqb, ne_eqb}
use lib.ListN.{length, get_or, take}
use Rattle.octets.specs.Octets.{pair_of}
use Rattle.refusal.specs.Answer.{refuses, answered, handed_out}
use Rattle.refusal.proofs.Answers.{answered-here, answered-later}
use Rattle.fcs.specs.Check.{check_of}
use Rattle.limits.specs.Limits.{is_limit, payload_most, line_most}
use Rattle.limits.proofs.Exactly.{is-limit-exactly}
use Rattle.frame.specs.Line.{broken, plain}
use Rattle.frame.specs.Decode.{body, right_check, framed, decode_rows, decoded}
use Rattle.frame.specs.Write.{line_of, write_rows, written}
use Rattle.frame.proofs.Lines.{overlong}

module _ (N : ℕ) (d : List ℕ) (room : ℕ) where
  pub short : length d < 4 → framed N d room ≡ refuses 1
  unfolding answered decode_rows
  short h = rw (lt-ltb (length d) 4 h)

  pub long : 4 ≤ length d → N < length d → framed N d room ≡ refuses 2
  unfolding answered decode_rows
  long k h = rw (le-ltb (length d) 4 k, lt-ltb N (length d) h)

  module _ (k : 4 ≤ length d) (h : length d ≤ N) where
    pub wrong : right_check d ≡ false → framed N d room ≡ refuses 3
    unfolding answered decode_rows
    wrong e = rw (le-ltb (length d) 4 k, le-ltb N (length d) h, e)

    pub right : right_check d ≡ true → framed N d room ≡ handed_out (body d) room
    unfolding answered decode_rows handed_out
    right e = rw (le-ltb (length d) 4 k, le-ltb N (length d) h, e)

-- octets that were stored are answered as what they are
pub when-stored : (N room : ℕ) {d e : List ℕ} → d ≡ e → framed N d room ≡ framed N e room
when-stored N room q = ap (λ (x : List ℕ). framed N x room) q

-- the check compared as the code has it
module _ (d : List ℕ) {check given : ℕ}
    (c : check ≡ check_of (take (length d - 2) d))
    (g : given ≡ pair_of (get_or d (length d - 2) 0) (get_or d (length d - 1) 0)) where
  pub check-differs : (check ≡ given → ⊥) → right_check d ≡ false
  unfolding right_check body
  check-differs n = rw (← c, ← g) (ne_eqb check given n)

  pub check-agrees : check ≡ given → right_check d ≡ true
  unfolding right_check body
  check-agrees e = rw (← c, ← g) (eq-eqb check given e)

-- no frame limit: 6, before all else
pub unlimited-decode : (N : ℕ) → is_limit N ≡ false → (s : List ℕ) (room : ℕ) → decoded N s room ≡ refuses 6
unfolding decoded
unlimited-decode N l s room = answered-here _ _ _ (ap not l)

pub unlimited-write : (N : ℕ) → is_limit N ≡ false → (a c : ℕ) (p : List ℕ) (room : ℕ) → written N a c p room ≡ refuses 6
unfolding written
unlimited-write N l a c p room = answered-here _ _ _ (ap not l)

module _ (N : ℕ) (l : is_limit N ≡ true) (s : List ℕ) (room : ℕ) where
  -- 6 is not given, and the rows behind it say the rest
  limited : decoded N s room ≡ answered (decode_rows N (broken s) (plain s) room) (body (plain s))
  unfolding decoded
  limited = answered-later _ _ _ (ap not l)

  pub when-broken : broken s ≡ true → decoded N s room ≡ refuses 4
  unfolding decode_rows
  when-broken e = limited ∙ answered-here _ _ _ e

  pub when_whole : broken s ≡ false → decoded N s room ≡ framed N (plain s) room
  when_whole e = limited ∙ ap (λ (b : Bool). answered (decode_rows N b (plain s) room) (body (plain s))) e

  -- more octets than a line has stand for more than the limit, which is 78 at least
  pub when-overlong : broken s ≡ false → line_most N < length s → decoded N s room ≡ refuses 2
  when-overlong e h =
      let least = (is-limit-exactly N).0 l in
      let more = overlong N s h in
      when_whole e ∙ long N (plain s) room (omega arith) more

module _ (N : ℕ) (l : is_limit N ≡ true) (a c : ℕ) (p : List ℕ) (room : ℕ) where
  limited-write : written N a c p room ≡ answered (write_rows N p (line_of (a ∷ c ∷ p)) room) (line_of (a ∷ c ∷ p))
  unfolding written
  limited-write = answered-later _ _ _ (ap not l)

  pub payload-long : payload_most N < length p → written N a c p room ≡ refuses 9
  unfolding write_rows
  payload-long h = limited-write ∙ answered-here _ _ _ (lt-ltb (payload_most N) (length p) h)

  pub payload-fits : length p ≤ payload_most N → written N a c p room ≡ handed_out (line_of (a ∷ c ∷ p)) room
  unfolding write_rows handed_out
  payload-fits h = limited-write ∙ answered-later _ _ _ (le-ltb (payload_most N) (length p) h)
