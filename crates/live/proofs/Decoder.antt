-- It is the decoder: what a receiver hands out over octets is what the decoder says of each stretch between two flags.
--   removed_after r p == the Bool of `plain_after` after the octets p
--   some p            == p has octets
--   Holds p h         == the record h holds the octets p of a stretch, none of which is a flag
--   flagged ps rest   == the parts ps, a flag behind each, and the rest
--   Flagless ps       == none of the parts ps holds a flag
-- Assumes nothing.
use mathlib.Core.Path.{◌≡◌, refl, sym, ap, ap₂, ◌∙◌}
use mathlib.Core.Bool.{Bool, true, false, cond, not, ◌&&◌, ◌||◌}
use mathlib.Core.List.{List, [], ◌∷◌, ◌++◌, append_assoc, append-nil}
use Prim.Native.Nat.{ℕ, zero, suc, ◌+◌, ◌<◌, ◌≤◌, min}
use native.Mathlib.Nat.{add-suc, suc-add}
use native.Mathlib.Omega.{arith}
use borrow.Author.Tests.{lt-ltb, ltb-true, ltb-false}
use lib.Bits.{bit_xor}
use lib.Dec.{eqb, ltb}
use lib.ListN.{length, take, set, length-append, length-take, length-set}
use lib.Seq.{sets, length-sets, take_all, take-length, take-append_seam, take-suc-set}
use Rattle.octets.specs.Octets.{holds, last_of}
use Rattle.octets.proofs.Stores.{sets-past}
use Rattle.octets.proofs.Words.{holds-head, holds-tail, holds_not}
use Rattle.refusal.specs.Answer.{◌when◌, answered}
use Rattle.limits.specs.Limits.{is_limit, frame_most}
use Rattle.limits.proofs.Exactly.{is-limit-exactly}
use Rattle.frame.specs.Line.{flag, escape, toggle, broken, plain_after, plain}
use Rattle.frame.specs.Decode.{body, decode_rows, decoded}
use Rattle.frame.proofs.Judge.{long, when-stored, when-broken, when_whole}
use Rattle.frame.proofs.Lines.{unbroken}
use Rattle.receiver.specs.Held.{Held, Usable, places, added_by, taken_in, after_flag, after_octet, stretch_says}
use Rattle.receiver.proofs.After.{after-flag, closes-other}
use Rattle.live.specs.Stretches.{stretches_after, stretches, answers_to, heard_line}
use Rattle.live.specs.Calls.{after_all, hand_outs}
use Rattle.live.proofs.Steps.{fresh, after-taken, after-dropped, closes-flag}
use Rattle.live.proofs.Steps.{outs-closed, outs-open, other-first, after_all-usable, after-append}

-- octets stored behind the first k of a list, as far as it has places
pub take-sets : (P : ℕ) (v m : List ℕ) (k : ℕ) → length m ≡ P → k ≤ P
    → take (min P (k + length v)) (sets m k v) ≡ take P (take k m ++ v)
take-sets P [] m k e h =
    let n : min P (k + 0) ≡ k = omega arith in
    rw (n, append-nil) (sym (take_all P (take k m) (omega (arith, length-take k m))))
take-sets P (y ∷ ys) m k e h =
    go (ltb k P) refl (take-sets P ys (set m k y) (suc k) (length-set m k y ∙ e))
  where
    next : List ℕ
    next = sets (set m k y) (suc k) ys

    go : (t : Bool) → ltb k P ≡ t
        → (suc k ≤ P → take (min P (suc k + length ys)) next ≡ take P (take (suc k) (set m k y) ++ ys))
        → take (min P (k + suc (length ys))) next ≡ take P (take k m ++ y ∷ ys)
    go true t less =
        let inside : k < P = ltb-true k P t in
        rw (add-suc, ← suc-add)
        (less inside
        ∙ ap (λ (l : List ℕ). take P (l ++ ys)) (take-suc-set m k y (omega arith))
        ∙ ap (take P) (append_assoc (take k m) (y ∷ []) ys))
    go false t less =
        let full : k ≡ length m = omega (arith, ltb-false k P t) in
        let n : min P (k + suc (length ys)) ≡ length m = omega arith in
        rw (n, sets-past (y ∷ ys) m k (omega arith), full, ← e, take-length)
        (sym (take-append_seam m (y ∷ ys)))

-- what is past the first P does not count
pub take_behind : (P : ℕ) (d v : List ℕ) → take P (take P d ++ v) ≡ take P (d ++ v)
take_behind zero d v = refl
take_behind (suc P) [] v = refl
take_behind (suc P) (x ∷ d) v = ap (λ (l : List ℕ). x ∷ l) (take_behind P d v)

unfoldable pub removed_after : Bool → List ℕ → Bool
removed_after removed [] = removed
removed_after removed (x ∷ xs) = removed_after (not removed && eqb x escape) xs

plain-append : (removed : Bool) (p q : List ℕ)
    → plain_after removed (p ++ q) ≡ plain_after removed p ++ plain_after (removed_after removed p) q
unfolding plain_after removed_after
plain-append true [] q = refl
plain-append false [] q = refl
plain-append true (x ∷ p) q = ap (λ (l : List ℕ). bit_xor x toggle ∷ l) (plain-append false p q)
plain-append false (x ∷ p) q = go (eqb x escape) (plain-append true p q) (plain-append false p q)
  where
    go : (t : Bool) → plain_after true (p ++ q) ≡ plain_after true p ++ plain_after (removed_after true p) q
        → plain_after false (p ++ q) ≡ plain_after false p ++ plain_after (removed_after false p) q
        → cond t (plain_after true (p ++ q)) (x ∷ plain_after false (p ++ q))
        ≡ cond t (plain_after true p) (x ∷ plain_after false p) ++ plain_after (removed_after t p) q
    go true e f = e
    go false e f = ap (λ (l : List ℕ). x ∷ l) f

removed-append : (removed : Bool) (p : List ℕ) (x : ℕ)
    → removed_after removed (p ++ x ∷ []) ≡ (not (removed_after removed p) && eqb x escape)
unfolding removed_after
removed-append removed [] x = refl
removed-append removed (y ∷ p) x = removed-append (not removed && eqb y escape) p x

last-append : (d : ℕ) (p : List ℕ) (x : ℕ) → last_of d (p ++ x ∷ []) ≡ x
unfolding last_of
last-append d [] x = refl
last-append d (y ∷ p) x = last-append y p x

holds-append : (k : ℕ) (p q : List ℕ) → holds k p ≡ false → holds k q ≡ false → holds k (p ++ q) ≡ false
holds-append k [] q h g = g
holds-append k (y ∷ p) q h g =
    holds_not k y (p ++ q) (holds-head k y p h) (holds-append k p q (holds-tail k y p h) g)

abbrev pub some : List ℕ → Bool
some [] = false
some (x ∷ p) = true

some-append : (p : List ℕ) (x : ℕ) → some (p ++ x ∷ []) ≡ true
some-append [] x = refl
some-append (y ∷ p) x = refl

pub record Holds (p : List ℕ) (h : Held) : Type 0 where
  pub flagless : holds flag p ≡ false
  pub count : h.marks.count ≡ min places (length (plain p))
  pub octets : take h.marks.count h.store ≡ take places (plain p)
  pub more : h.marks.more ≡ ltb places (length (plain p))
  pub escaping : h.marks.escaping ≡ removed_after false p
  pub last : h.marks.last ≡ eqb (last_of 0 p) escape
  pub any : h.marks.any ≡ some p
  pub seen : h.marks.seen ≡ true
  pub store : length h.store ≡ places

pub holds_opened : (h : Held) → length h.store ≡ places → Holds [] (after_flag h)
unfolding after_flag holds plain_after removed_after last_of
holds_opened h e =
    record {
      flagless = refl;
      count = refl;
      octets = refl;
      more = refl;
      escaping = refl;
      last = refl;
      any = refl;
      seen = refl;
      store = e;
    }

-- more octets than places, where some are added to those that were taken
more_added : (P n k : ℕ) → (ltb P n || ltb P (min P n + k)) ≡ ltb P (n + k)
more_added P n k = go (ltb P n) refl
  where
    go : (t : Bool) → ltb P n ≡ t → (t || ltb P (min P n + k)) ≡ ltb P (n + k)
    go true t = sym (lt-ltb P (n + k) (omega (arith, ltb-true P n t)))
    go false t =
        let all : min P n ≡ n = omega (arith, ltb-false P n t) in rw all

-- an octet of the stretch that is no flag
module _ (p : List ℕ) (h : Held) (x : ℕ) (was : Holds p h) where
  plain-added : plain (p ++ x ∷ []) ≡ plain p ++ added_by h x
  unfolding added_by
  plain-added =
      plain-append false p (x ∷ [])
      ∙ ap (λ (b : Bool). plain p ++ plain_after b (x ∷ [])) (sym was.escaping)

  long-added : length (plain (p ++ x ∷ [])) ≡ length (plain p) + length (added_by h x)
  long-added = ap length plain-added ∙ length-append (plain p) (added_by h x)

  holds-taken : eqb x flag ≡ false → Holds (p ++ x ∷ []) (taken_in h x)
  unfolding taken_in holds
  holds-taken other =
      record {
        flagless = holds-append flag p (x ∷ []) was.flagless (rw other);
        count = omega (arith, was.count, long-added);
        octets =
            take-sets places (added_by h x) h.store h.marks.count was.store (omega (arith, was.count))
            ∙ ap (λ (l : List ℕ). take places (l ++ added_by h x)) was.octets
            ∙ take_behind places (plain p) (added_by h x)
            ∙ ap (take places) (sym plain-added);
        more =
            ap₂ (λ (b : Bool) (n : ℕ). b || ltb places (n + length (added_by h x))) was.more was.count
            ∙ more_added places (length (plain p)) (length (added_by h x))
            ∙ ap (ltb places) (sym long-added);
        escaping = ap (λ (b : Bool). not b && eqb x escape) was.escaping ∙ sym (removed-append false p x);
        last = ap (λ (y : ℕ). eqb y escape) (sym (last-append 0 p x));
        any = sym (some-append p x);
        seen = was.seen;
        store = length-sets h.store h.marks.count (added_by h x) ∙ was.store;
      }

  pub holds_after : eqb x flag ≡ false → Holds (p ++ x ∷ []) (after_octet h x)
  holds_after other = rw (after-taken h x other was.seen) (holds-taken other)

-- the rows of a receiver are those of the decoder
rows-decoded : (N : ℕ) → is_limit N ≡ true → (p d : List ℕ) (room : ℕ) (last more : Bool) → holds flag p ≡ false
    → last ≡ eqb (last_of 0 p) escape → more ≡ ltb places (length (plain p)) → d ≡ take places (plain p)
    → answered (4 when last ∷ 2 when more ∷ decode_rows N false d room) (body d) ≡ decoded N p room
unfolding answered broken
rows-decoded N l p d room true more f e m q = sym (when-broken N l p room (rw (f, ← e)))
rows-decoded N l p d room false true f e m q =
    let limit = (is-limit-exactly N).0 l in
    let over : places < length (plain p) = ltb-true places (length (plain p)) (sym m) in
    sym (when_whole N l p room (unbroken p f (sym e)) ∙ long N (plain p) room (omega arith) (omega arith))
rows-decoded N l p d room false false f e m q =
    when-stored N room (q ∙ take_all places (plain p) (ltb-false places (length (plain p)) (sym m)))
    ∙ sym (when_whole N l p room (unbroken p f (sym e)))

module _ (N : ℕ) (l : is_limit N ≡ true) where
  -- what is handed out at a flag
  pub says-decoded : (p : List ℕ) (h : Held) (room : ℕ) → Holds p h → stretch_says N room h ≡ decoded N p room
  unfolding stretch_says
  says-decoded p h room was =
      rows-decoded N l p (take h.marks.count h.store) room h.marks.last h.marks.more was.flagless
      was.last was.more was.octets

  -- a flag behind the octets p
  at_flag : (p : List ℕ) (h : Held) (x : ℕ) (xs : List ℕ) → Holds p h → eqb x flag ≡ true
      → hand_outs N (after_flag h) xs ≡ answers_to N (stretches_after [] xs)
      → hand_outs N h (x ∷ xs) ≡ answers_to N (p ∷ stretches_after [] xs)
  unfolding answers_to
  at_flag [] h x xs was e less =
      outs-open h x N xs (closes-flag h x e was.seen was.any)
      ∙ ap (λ (g : Held). hand_outs N g xs) (after-flag h x e)
      ∙ less
  at_flag (y ∷ p) h x xs was e less =
      outs-closed h x N xs (closes-flag h x e was.seen was.any)
      ∙ ap₂ ◌∷◌ (says-decoded (y ∷ p) h (frame_most N) was)
      (ap (λ (g : Held). hand_outs N g xs) (after-flag h x e) ∙ less)

  -- behind a flag and the octets p
  outs-behind : (p : List ℕ) (h : Held) (s : List ℕ) → Holds p h → hand_outs N h s ≡ answers_to N (stretches_after p s)
  unfolding hand_outs stretches_after answers_to
  outs-behind p h [] was = refl
  outs-behind p h (x ∷ xs) was =
      go (eqb x flag) refl (outs-behind [] (after_flag h) xs (holds_opened h was.store))
      (λ other. outs-behind (p ++ x ∷ []) (after_octet h x) xs (holds_after p h x was other))
    where
      go : (t : Bool) → eqb x flag ≡ t → hand_outs N (after_flag h) xs ≡ answers_to N (stretches_after [] xs)
          → (eqb x flag ≡ false → hand_outs N (after_octet h x) xs ≡ answers_to N (stretches_after (p ++ x ∷ []) xs))
          → hand_outs N h (x ∷ xs)
          ≡ answers_to N (cond t (p ∷ stretches_after [] xs) (stretches_after (p ++ x ∷ []) xs))
      go true e less more = at_flag p h x xs was e less
      go false e less more = outs-open h x N xs (closes-other h x e) ∙ more e

  -- before the first flag
  outs-before : (h : Held) (s : List ℕ) → h.marks.seen ≡ false → length h.store ≡ places → hand_outs N h s ≡ heard_line N s
  unfolding hand_outs heard_line stretches answers_to
  outs-before h [] none e = refl
  outs-before h (x ∷ xs) none e = go (eqb x flag) refl (outs-before h xs none e)
    where
      go : (t : Bool) → eqb x flag ≡ t → hand_outs N h xs ≡ answers_to N (stretches xs)
          → hand_outs N h (x ∷ xs) ≡ answers_to N (cond t (stretches_after [] xs) (stretches xs))
      go true t less =
          outs-open h x N xs (closes-flag h x t none refl)
          ∙ ap (λ (g : Held). hand_outs N g xs) (after-flag h x t)
          ∙ outs-behind [] (after_flag h) xs (holds_opened h e)
      go false t less =
          outs-open h x N xs (closes-other h x t)
          ∙ ap (λ (g : Held). hand_outs N g xs) (after-dropped h x t none)
          ∙ less

  -- (a): over any octets, what is handed out is what the decoder says of each stretch between two flags, in order
  pub it-is-the-decoder : (m : List ℕ) → length m ≡ places → (s : List ℕ) → hand_outs N (fresh m) s ≡ heard_line N s
  it-is-the-decoder m e s = outs-before (fresh m) s refl e

-- what a receiver holds behind a flag and octets without one
holds_more : (q p : List ℕ) (h : Held) → Holds q h → holds flag p ≡ false → Holds (q ++ p) (after_all h p)
unfolding after_all
holds_more q [] h was f = rw append-nil was
holds_more q (x ∷ p) h was f =
    rw append_assoc at
    (holds_more (q ++ x ∷ []) p (after_octet h x) (holds_after q h x was (other-first x p f)) (holds-tail flag x p f))

pub holds-always : (h : Held) (p : List ℕ) → length h.store ≡ places → holds flag p ≡ false
    → Holds p (after_all (after_flag h) p)
holds-always h p e f = holds_more [] p (after_flag h) (holds_opened h e) f

-- from any record that is not refused: the stretch since the last flag is held
pub holds-behind : (h : Held) (before p : List ℕ) → Usable h → holds flag p ≡ false
    → Holds p (after_all h (before ++ flag ∷ p))
unfolding after_all
holds-behind h before p usable f =
    let g : Held = after_all h before in
    rw (after-append h before (flag ∷ p), after-flag g flag refl)
    (holds-always g p (after_all-usable h before usable).0 f)

unfoldable pub flagged : List (List ℕ) → List ℕ → List ℕ
flagged [] rest = rest
flagged (p ∷ ps) rest = p ++ flag ∷ flagged ps rest

abbrev pub Flagless : List (List ℕ) → Type 0
Flagless [] = Unit {0}
Flagless (p ∷ ps) = (holds flag p ≡ false) × Flagless ps

-- octets without a flag belong to the stretch
pub stretch-grows : (p q s : List ℕ) → holds flag q ≡ false → stretches_after p (q ++ s) ≡ stretches_after (p ++ q) s
unfolding stretches_after
stretch-grows p [] s f = rw append-nil
stretch-grows p (x ∷ q) s f =
    rw (other-first x q f) (stretch-grows (p ++ x ∷ []) q s (holds-tail flag x q f) ∙ rw append_assoc)

-- and none of them closes it
pub stretch-open : (p q : List ℕ) → holds flag q ≡ false → stretches_after p q ≡ []
unfolding stretches_after
stretch-open p q f = ap (stretches_after p) (sym (append-nil q)) ∙ stretch-grows p q [] f

-- up to a flag that closes it
pub stretch-closed : (p s : List ℕ) → holds flag p ≡ false → stretches_after [] (p ++ flag ∷ s) ≡ p ∷ stretches_after [] s
unfolding stretches_after
stretch-closed p s f = stretch-grows [] p (flag ∷ s) f

parts_are : (ps : List (List ℕ)) (rest : List ℕ) → Flagless ps → holds flag rest ≡ false
    → stretches_after [] (flagged ps rest) ≡ ps
unfolding flagged stretches_after
parts_are [] rest fs f = stretch-open [] rest f
parts_are (p ∷ ps) rest fs f =
    stretch-closed p (flagged ps rest) fs.0 ∙ ap (λ (l : List (List ℕ)). p ∷ l) (parts_are ps rest fs.1 f)

-- the sentence: what lies between two flags, whatever stands before the first and behind the last
pub stretches-are : (noise : List ℕ) (ps : List (List ℕ)) (rest : List ℕ) → holds flag noise ≡ false → Flagless ps
    → holds flag rest ≡ false → stretches (noise ++ flag ∷ flagged ps rest) ≡ ps
unfolding stretches
stretches-are [] ps rest n fs f = parts_are ps rest fs f
stretches-are (x ∷ noise) ps rest n fs f =
    rw (other-first x noise n) (stretches-are noise ps rest (holds-tail flag x noise n) fs f)
