-- The ways through a command, each by what was asked on it. Assumes nothing.
use Rattle.std.proofs.Common.{Result, Ok, Err}
use Rattle.refusal.specs.declared.Refusal.{Refusal}
use mathlib.Core.Path.{◌≡◌, refl, sym, ap, ap₂, ◌∙◌}
use mathlib.Core.Bool.{Bool, true, false, not, ◌&&◌}
use mathlib.Core.List.{List, [], ◌∷◌}
use Prim.Native.Nat.{ℕ, zero, suc, ◌+◌, ◌-◌, ◌≤◌, ◌<◌}
use native.Mathlib.Omega.{arith}
use lib.Dec.{leb, eqb}
use borrow.Author.Tests.{le-leb, lt-leb, eq-eqb, ne_eqb, leb-true, ltb-true, eqb-false, not-true}
use lib.ListN.{length, get_or, set}
use Rattle.octets.proofs.Words.{and_parts}
use Rattle.refusal.specs.Answer.{Answer, gives, refuses, answered, Changes, made_of}
use Rattle.refusal.specs.Numbers.{number_of}
use Rattle.antenna.specs.declared.Angle.{Angle}
use Rattle.record.specs.declared.Device.{Device}
use Rattle.record.specs.Fresh.{fresh_of}
use Rattle.record.specs.Allowed.{allowed_device, limit_of}
use Rattle.record.specs.Changes.{event_rows, happened}
use Rattle.device.specs.Judge.{Said, judged, heard, Judges}
use Rattle.bus.specs.declared.Row.{Row}
use Rattle.bus.specs.Cable.{row_most}
use Rattle.octets.specs.Octets.{part_of}
use Rattle.script.specs.Commands as command
use Rattle.drives.specs.declared.Response.TheVariants as code
use Rattle.drives.specs.declared.Response as the-response
use Rattle.drives.specs.Drives.{After, Came, Obeys, no_device, device, outcome, answer, state, limit}
use Rattle.drives.specs.Drives.{◌saying◌, ◌leaving◌, reply_of, after_of, is_device, device_at, with_device, value}
use Rattle.drives.specs.Drives.{tilt_of, listens, tells, is_value, event_of, happens, befalls, are_tilts, fresh_with}
use Rattle.drives.specs.Drives.{fresh_by, added, adds, tells_limit, drives, to_device, for_device, obeyed}

-- ---- a place

-- what stands at a place that there is does not depend on what would stand elsewhere
pub stands : {A : Type 0} (l : List A) (i : ℕ) (d z : A) → i < length l → get_or l i d ≡ get_or l i z
stands [] i d z h = absurd (omega arith)
stands (x ∷ l) zero d z h = refl
stands (x ∷ l) (suc i) d z h = stands l i d z (omega arith)

pub device-place : (n k : ℕ) {b : Bool} → b ≡ is_device n k → b ≡ true → (1 ≤ k) × (k - 1 < row_most)
unfolding is_device
device-place n k e t =
    let (first, rest) = and_parts (not (eqb k 0)) (leb k row_most && leb k n) (sym e ∙ t) in
    let (few, _) = and_parts (leb k row_most) (leb k n) rest in
    let some = eqb-false k 0 (not-true (eqb k 0) first) in
    let most = leb-true k row_most few in
    (omega (arith, some), omega (arith, some))

-- ---- frames and events

module _ (c : ℕ) (d : Device) (os : List ℕ) (n : ℕ) {d' : Device} {o o' : List ℕ} {j : Said} where
  pub listens-frame : c ≡ command.frame → Judges (judged d os n) d o j d' o' → Judges (listens c d os n) d o j d' o'
  unfolding listens
  listens-frame e h = rw (eq-eqb c command.frame e) h

  pub listens-line : (c ≡ command.frame → ⊥) → Judges (heard d os n) d o j d' o'
      → Judges (listens c d os n) d o j d' o'
  unfolding listens
  listens-line e h = rw (ne_eqb c command.frame e) h

-- what comes of the device that stood at the place, d, which is d' afterwards
pub tells_at : (row : Row) (place c : ℕ) (os : List ℕ) (n : ℕ) {d d' : Device} {o o' : List ℕ} {j : Said}
    → d ≡ device_at row place → Judges (listens c d os n) d o j d' o'
    → Obeys (tells row place (listens c (device_at row place) os n) o)
    (record { devices = set row.devices place d'; count = row.count }) (code.Said j) o'
unfolding tells reply_of with_device
tells_at row place c os n {d' = d'} {o} {o'} {j} e h =
    let w : Judges (listens c (device_at row place) os n) (device_at row place) o j d' o' = rw e at h in
    record {
      after = ap₂ (λ (d : Device) (a : Answer _). record { row = with_device row place d; reply = answer a }) w.device w.said;
      lent = w.buffer;
    }

pub befalls-at : (row : Row) (place c v : ℕ) {d d' : Device} {u : Result (Unit {0}) Refusal}
    → d ≡ device_at row place → Changes (happens d c v) d u d'
    → after_of (record { devices = set row.devices place d'; count = row.count }) (code.Outcome u)
    ≡ befalls row place (happens (device_at row place) c v)
unfolding befalls reply_of with_device
befalls-at row place c v {d' = d'} {u} e h =
    let w : Changes (happens (device_at row place) c v) (device_at row place) u d' = rw e at h in
    ap₂ (λ (d : Device) (a : Answer _). record { row = with_device row place d; reply = outcome a }) w.state w.outcome

pub limit-at : (row : Row) (place : ℕ) {d : Device} → d ≡ device_at row place
    → row saying limit (limit_of d) ≡ tells_limit row place
unfolding tells_limit
limit-at row place e = ap (λ (d : Device). row saying limit (limit_of d)) e

-- an alarm that is a value is an octet
pub alarm-octet : (c v : ℕ) → is_value c v ≡ true → (c ≡ command.stopped → ⊥) → v < 256
unfolding is_value
alarm-octet c v h e = ltb-true v 256 (rw (ne_eqb c command.stopped e) at h)

module _ (d : Device) (c v : ℕ) where
  -- a value that is one makes an event like any other
  pub happens-event : is_value c v ≡ true → happened d (event_of c v) ≡ happens d c v
  unfolding happens happened event_rows
  happens-event h = rw h

  pub happens-never : is_value c v ≡ false → allowed_device d ≡ true → happens d c v ≡ refuses 8
  unfolding happens answered
  happens-never h e = rw (e, h)

  pub happens-not : allowed_device d ≡ false → happens d c v ≡ refuses 6
  unfolding happens answered
  happens-not e = rw e

-- ---- one more device

-- the texts and the tilts of the words
pub fresh-by : (v os : List ℕ) {i p h s : List ℕ} {l m t : Angle} (r : Result Device Refusal)
    → i ≡ part_of 0 (value v 1) os → p ≡ part_of (value v 1) (value v 2) os
    → h ≡ part_of (value v 2) (value v 3) os → s ≡ part_of (value v 3) (value v 4) os
    → l ≡ tilt_of (value v 5) → m ≡ tilt_of (value v 6) → t ≡ tilt_of (value v 7)
    → made_of r ≡ fresh_of i p h s (record { lowest = l; highest = m; present = t })
    → made_of r ≡ fresh_with v os
unfolding fresh_with
fresh-by v os r ei ep eh es el em et c = rw (ei, ep, eh, es, el, em, et) at c

module _ (row : Row) where
  pub added-refused : (x : Answer Device) {r : Result Device Refusal} {k : Refusal} → made_of r ≡ x → r ≡ Err k
      → row saying outcome (refuses (number_of k)) ≡ added row x
  unfolding added made_of
  added-refused x {k = k} e f =
      let is : refuses (number_of k) ≡ x = sym (ap made_of f) ∙ e in rw (← is)

  pub added-done : (x : Answer Device) {r : Result Device Refusal} {d : Device} → made_of r ≡ x → r ≡ Ok d
      → record { devices = set row.devices row.count d; count = row.count + 1 } saying device (row.count + 1) ≡ added row x
  unfolding added made_of
  added-done x {d = d} e f =
      let is : gives d ≡ x = sym (ap made_of f) ∙ e in rw (← is)

  module _ (v os : List ℕ) (h : row.count < row_most) {b : Bool} (e : b ≡ are_tilts v) where
    pub adds-open : b ≡ true → added row (fresh_with v os) ≡ adds row v os
    unfolding adds fresh_by
    adds-open t = let y : are_tilts v ≡ true = sym e ∙ t in rw (lt-leb row_most row.count h, y)

    pub adds-shut : b ≡ false → row saying outcome (refuses 6) ≡ adds row v os
    unfolding adds fresh_by added
    adds-shut t = let y : are_tilts v ≡ false = sym e ∙ t in rw (lt-leb row_most row.count h, y)

-- ---- which way

pub obeys-by : {x y : Came} {w : Row} {r : the-response.Response} {o' : List ℕ} → x ≡ y → Obeys x w r o'
    → Obeys y w r o'
obeys-by e h = record { after = h.after ∙ ap after e; lent = h.lent ∙ ap lent e }
  where
    after : Came → After
    after x = x.after

    lent : Came → List ℕ
    lent x = x.lent

module _ (c : ℕ) (row : Row) (os o : List ℕ) where
  module _ (place v : ℕ) where
    pub drives-tells : c ≤ command.hear
        → tells row place (listens c (device_at row place) os (length o)) o ≡ drives c row place v os o
    unfolding drives
    drives-tells h = rw (le-leb c command.hear h)

    pub drives-state : c ≡ command.show → (row saying state place) leaving o ≡ drives c row place v os o
    unfolding drives
    drives-state h = rw (lt-leb c command.hear (omega arith), eq-eqb c command.show h)

    pub drives-limit : c ≡ command.limit → tells_limit row place leaving o ≡ drives c row place v os o
    unfolding drives
    drives-limit h =
        rw (lt-leb c command.hear (omega arith), ne_eqb c command.show (λ e. omega arith), eq-eqb c command.limit h)

    pub limit-obeys : {r : the-response.Response} → c ≡ command.limit → after_of row r ≡ tells_limit row place
        → Obeys (drives c row place v os o) row r o
    limit-obeys h a = obeys-by (drives-limit h) (record { after = a; lent = refl })

    module _ (h : command.hear < c) (n : c ≡ command.show → ⊥) (m : c ≡ command.limit → ⊥) where
      drives-event : befalls row place (happens (device_at row place) c v) leaving o ≡ drives c row place v os o
      unfolding drives
      drives-event = rw (lt-leb c command.hear h, ne_eqb c command.show n, ne_eqb c command.limit m)

      pub event-obeys : {w : Row} {r : the-response.Response}
          → after_of w r ≡ befalls row place (happens (device_at row place) c v)
          → Obeys (drives c row place v os o) w r o
      event-obeys a = obeys-by drives-event (record { after = a; lent = refl })

  module _ (k v : ℕ) {b : Bool} (e : b ≡ is_device row.count k) where
    pub at-device : b ≡ true → drives c row (k - 1) v os o ≡ to_device c row k v os o
    unfolding to_device
    at-device t = let y : is_device row.count k ≡ true = sym e ∙ t in rw y

    pub no-device : b ≡ false → (row saying no_device) leaving o ≡ to_device c row k v os o
    unfolding to_device
    no-device t = let y : is_device row.count k ≡ false = sym e ∙ t in rw y

  module _ (v : List ℕ) {b : Bool} (e : b ≡ for_device c) where
    pub obeyed-device : b ≡ true → to_device c row (value v 1) (value v 2) os o ≡ obeyed c row v os o
    unfolding obeyed
    obeyed-device t = let y : for_device c ≡ true = sym e ∙ t in rw y

    module _ (t : b ≡ false) where
      pub obeyed-adds : c ≡ command.device → adds row v os leaving o ≡ obeyed c row v os o
      unfolding obeyed
      obeyed-adds h = let y : for_device c ≡ false = sym e ∙ t in rw (y, eq-eqb c command.device h)

      pub obeys-none : (c ≡ command.device → ⊥)
          → Obeys (obeyed c row v os o) row code.NoCommand o
      unfolding obeyed reply_of
      obeys-none n =
          let y : for_device c ≡ false = sym e ∙ t in
          rw (y, ne_eqb c command.device n) (record { after = refl; lent = refl })
