-- What an allowed record is in a session, part by part, and back; and that a good N(R) leaves it so. Assumes nothing.
use mathlib.Core.Path.{◌≡◌, refl, sym, ap, ◌∙◌}
use mathlib.Core.Bool.{Bool, true, false, cond}
use Prim.Native.Nat.{ℕ}
use borrow.Author.Tests.{lt-ltb}
use lib.Dec.{ltb}
use Rattle.octets.proofs.Words.{and_parts}
use Rattle.control.proofs.Named.{next-below}
use Rattle.antenna.specs.Motions.{in_range}
use Rattle.record.specs.declared.Session.{Session}
use Rattle.record.specs.declared.Link.TheVariants.{Connected}
use Rattle.record.specs.declared.Device.{Device}
use Rattle.limits.specs.Limits.{is_limit}
use Rattle.record.specs.Allowed.{limit_of, plates_allowed, numbers_allowed, pending_fits, session_allowed, addressed}
use Rattle.record.specs.Allowed.{link_allowed, owed_allowed, allowed_device}
use Rattle.record.proofs.Stays.{sound, allowed-by}
use Rattle.session.specs.Session.{acknowledges, taken}
use Rattle.acknowledge.specs.Acknowledge.{emptied, relieved, session_after, station_after}
use Rattle.acknowledge.specs.Acknowledge.{acknowledged}
use Rattle.record.specs.Changes.{device_of}
use Rattle.conduct.proofs.Settles.{address_kept, limit-kept, relieved-link}

pub record Within (d : Device) (s : Session) : Type 0 where
  pub plate : plates_allowed d.plate ≡ true
  pub range : in_range d.antenna d.antenna.drive.tilt ≡ true
  pub address : addressed d.station.desk.address ≡ true
  pub limit : is_limit (limit_of d) ≡ true
  pub link : d.station.link ≡ Connected s
  pub numbers : numbers_allowed s ≡ true
  pub fits : pending_fits d.station.desk s.pending ≡ true

pub within : (d : Device) (s : Session) → allowed_device d ≡ true → d.station.link ≡ Connected s → Within d s
unfolding link_allowed session_allowed
within d s e l =
    let w = sound d e in
    let here = and_parts (addressed d.station.desk.address) (session_allowed d.station.desk s)
    (sym (ap (link_allowed d.station.desk) l) ∙ w.link) in
    let session = and_parts (numbers_allowed s) (pending_fits d.station.desk s.pending) here.1 in
    record {
      plate = w.plate;
      range = w.range;
      address = here.0;
      limit = w.limit;
      link = l;
      numbers = session.0;
      fits = session.1;
    }

pub allowed-within : (d : Device) (s : Session) → Within d s → allowed_device d ≡ true
unfolding link_allowed session_allowed owed_allowed
allowed-within d s w =
    allowed-by d
    (record {
      plate = w.plate;
      range = w.range;
      limit = w.limit;
      link = ap (link_allowed d.station.desk) w.link ∙ rw (w.address, w.numbers, w.fits);
      owed = rw w.link;
    })

-- S and R stay 0 to 7
emptied-numbers : (s : Session) → numbers_allowed s ≡ true → numbers_allowed (emptied s) ≡ true
unfolding numbers_allowed emptied
emptied-numbers s e =
    let parts = and_parts (ltb s.r 8) (ltb s.s 8) e in
    rw (parts.0, lt-ltb _ 8 (next-below s.s))

pub taken-numbers : (s : Session) → numbers_allowed s ≡ true → numbers_allowed (taken s) ≡ true
unfolding numbers_allowed taken
taken-numbers s e =
    let parts = and_parts (ltb s.r 8) (ltb s.s 8) e in
    rw (parts.1, lt-ltb _ 8 (next-below s.r))

-- the device after a good N(R), in the session after it
pub relieved-within : (d : Device) (s : Session) (r : ℕ) → Within d s → Within (acknowledged d s r) (session_after s r)
unfolding acknowledged device_of station_after session_after relieved emptied pending_fits
relieved-within d s r w =
    record {
      plate = w.plate;
      range = w.range;
      address = ap addressed (address_kept d s r) ∙ w.address;
      limit = ap is_limit (limit-kept d s r) ∙ w.limit;
      link = relieved-link d s r w.link;
      numbers = numbers (acknowledges s r);
      fits = fits (acknowledges s r);
    }
  where
    numbers : (b : Bool) → numbers_allowed (cond b (emptied s) s) ≡ true
    numbers true = emptied-numbers s w.numbers
    numbers false = w.numbers

    fits : (b : Bool)
        → pending_fits (cond b (relieved d.station s) d.station).desk (cond b (emptied s) s).pending ≡ true
    fits true = refl
    fits false = w.fits
