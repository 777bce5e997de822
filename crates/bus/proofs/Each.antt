-- One device through the assignments of a whole list: it stays allowed and keeps its plate, none that is not its right
-- end moves it, and it comes out at the address of its own place if no later one is its right end. Assumes nothing.
use mathlib.Core.Path.{◌≡◌, refl, sym, ap, ◌∙◌, subst}
use mathlib.Core.Bool.{Bool, true, false, cond}
use mathlib.Core.List.{List, [], ◌∷◌, Memᴰ}
use Prim.Native.Nat.{ℕ, zero, suc, ◌+◌, ◌-◌, ◌≤◌, ◌<◌}
use native.Mathlib.Nat.{not-suc-le-zero, le_of_suc-le-suc}
use native.Mathlib.Omega.{arith}
use borrow.Author.Tests.{lt-ltb}
use lib.ListN.{length, get_or}
use Rattle.identity.specs.Identity.{unpadded, allowed_identity, padded}
use Rattle.xid.specs.Match.{ends_with}
use Rattle.record.specs.declared.Device.{Device}
use Rattle.record.specs.declared.Link.TheVariants.{AddressAssigned}
use Rattle.record.specs.declared.Plate.{Plate}
use Rattle.record.specs.Allowed.{identity_of, addressed, link_allowed, allowed_device}
use Rattle.record.specs.Changes.{unsaid_at, emptied_as, ended_as}
use Rattle.record.proofs.Stays.{end_stays}
use Rattle.xid.specs.Meaning.{EndOf}
use Rattle.identity.proofs.Identities.{unpadded-padded}
use Rattle.bus.specs.Cable.{identity_in, padded_in, after_line, after_lines}
use Rattle.bus.specs.Install.{assigning, assignments, NoRightEnd}
use Rattle.bus.proofs.Heard.{identity-allowed}
use Rattle.xid.proofs.Ends.{ends-exactly}
use Rattle.bus.proofs.Assigns.{assignment-heard}

-- the device d after the lines for all of xs, the addresses counted from a on
abbrev pub each : ℕ → List (List ℕ) → Device → Device
each a xs d = after_lines (assignments a xs) d

-- ---- one line

-- each listed identity is one, and the addresses from a on do not pass 254
pub record Listed (a : ℕ) (xs : List (List ℕ)) : Type 0 where
  pub whole : (x : List ℕ) → Memᴰ x xs → allowed_identity (unpadded x) ≡ true
  pub least : 1 ≤ a
  pub most : a + length xs ≤ 255

pub listed_more : {a : ℕ} {x : List ℕ} {xs : List (List ℕ)} → Listed a (x ∷ xs) → Listed (suc a) xs
listed_more l =
    record {
      whole = λ y m. l.whole y (Memᴰ.tail m);
      least = omega (arith, l.least);
      most = omega (arith, l.most);
    }

pub record Kept (d e : Device) : Type 0 where
  pub allowed : allowed_device e ≡ true
  pub plate : e.plate ≡ d.plate

module _ (a : ℕ) (x : List ℕ) (xs : List (List ℕ)) (l : Listed a (x ∷ xs)) (d : Device)
    (allowed : allowed_device d ≡ true) where
  pub line-is : after_line d (assigning a x)
      ≡ cond (ends_with (identity_in d) (unpadded x)) (ended_as d a AddressAssigned) d
  line-is =
      assignment-heard (unpadded x) a (l.whole x (Memᴰ.head refl)) l.least (omega (arith, l.most)) d allowed

  pub taken : EndOf (identity_in d) (unpadded x) → after_line d (assigning a x) ≡ ended_as d a AddressAssigned
  taken e =
      line-is
      ∙ ap (λ (b : Bool). cond b (ended_as d a AddressAssigned) d) ((ends-exactly (identity_in d) (unpadded x)).1 e)

  passed : (EndOf (identity_in d) (unpadded x) → ⊥) → after_line d (assigning a x) ≡ d
  passed n = line-is ∙ go (ends_with (identity_in d) (unpadded x)) refl
    where
      go : (b : Bool) → ends_with (identity_in d) (unpadded x) ≡ b → cond b (ended_as d a AddressAssigned) d ≡ d
      go true e = absurd (n ((ends-exactly (identity_in d) (unpadded x)).0 e))
      go false e = refl

  ended-kept : Kept d (ended_as d a AddressAssigned)
  unfolding emptied_as link_allowed unsaid_at addressed
  ended-kept =
      record {
        allowed = end_stays d a AddressAssigned allowed
            (rw (lt-ltb 0 a l.least, lt-ltb a 255 (omega (arith, l.most))));
        plate = refl;
      }

  pub line_kept : Kept d (after_line d (assigning a x))
  line_kept = rw line-is (go (ends_with (identity_in d) (unpadded x)))
    where
      go : (b : Bool) → Kept d (cond b (ended_as d a AddressAssigned) d)
      go true = ended-kept
      go false = record { allowed = allowed; plate = refl }

-- ---- all lines

pub each-kept : (xs : List (List ℕ)) (a : ℕ) (d : Device) → Listed a xs → allowed_device d ≡ true
    → Kept d (each a xs d)
unfolding after_lines assignments
each-kept [] a d l e = record { allowed = e; plate = refl }
each-kept (x ∷ xs) a d l e =
    let one = line_kept a x xs l d e in
    let more = each-kept xs (suc a) (after_line d (assigning a x)) (listed_more l) one.allowed in
    record { allowed = more.allowed; plate = more.plate ∙ one.plate }

pub each-stays : (xs : List (List ℕ)) (a : ℕ) (d : Device) → Listed a xs → allowed_device d ≡ true
    → ((y : List ℕ) → Memᴰ y xs → EndOf (identity_in d) (unpadded y) → ⊥) → each a xs d ≡ d
unfolding after_lines assignments
each-stays [] a d l e none = refl
each-stays (x ∷ xs) a d l e none =
    ap (each (suc a) xs) (passed a x xs l d e (none x (Memᴰ.head refl)))
    ∙ each-stays xs (suc a) d (listed_more l) e (λ y m. none y (Memᴰ.tail m))

-- an identity is its own right end
pub whole-end : (i : List ℕ) → EndOf i i
whole-end i =
    let none : length i - length i ≡ 0 = omega arith in
    (omega arith, rw none)

pub each_holds : (xs : List (List ℕ)) (a : ℕ) (d : Device) → Listed a xs → allowed_device d ≡ true → NoRightEnd xs
    → (k : ℕ) → k < length xs → padded_in d ≡ get_or xs k []
    → ((each a xs d).station.desk.address ≡ a + k) × ((each a xs d).station.link ≡ AddressAssigned)
unfolding after_lines assignments emptied_as unsaid_at
each_holds [] a d l e ends k h p = absurd (not-suc-le-zero h)
each_holds (x ∷ xs) a d l e ends zero h p =
    let own : identity_in d ≡ unpadded x =
    sym (unpadded-padded (identity_in d) (identity-allowed d e)) ∙ ap unpadded p in
    let now : after_line d (assigning a x) ≡ ended_as d a AddressAssigned =
    taken a x xs l d e (subst (EndOf (identity_in d)) own (whole-end (identity_in d))) in
    let kept = ended-kept a x xs l d e in
    let same : identity_in (ended_as d a AddressAssigned) ≡ unpadded x = ap identity_of kept.plate ∙ own in
    let rest : each (suc a) xs (ended_as d a AddressAssigned) ≡ ended_as d a AddressAssigned =
    each-stays xs (suc a) (ended_as d a AddressAssigned) (listed_more l) kept.allowed
    (λ y m w. ends.0 y m (subst (λ (i : List ℕ). EndOf i (unpadded y)) same w)) in
    at (ap (each (suc a) xs) now ∙ rest)
  where
    at : {b : Device} → b ≡ ended_as d a AddressAssigned
        → (b.station.desk.address ≡ a + 0) × (b.station.link ≡ AddressAssigned)
    at g = (ap (λ (b : Device). b.station.desk.address) g ∙ omega arith, ap (λ (b : Device). b.station.link) g)
each_holds (x ∷ xs) a d l e ends (suc k) h p =
    let one = line_kept a x xs l d e in
    let same : padded_in (after_line d (assigning a x)) ≡ get_or xs k [] =
    ap (λ (q : Plate). padded (identity_of q)) one.plate ∙ p in
    let more =
    each_holds xs (suc a) (after_line d (assigning a x)) (listed_more l) one.allowed ends.1 k (le_of_suc-le-suc h)
    same in
    (more.0 ∙ omega arith, more.1)
