-- Demand 2. "Frames, link states, address matching and commands do what document 01 says. A frame that we write reads
-- back as what was put in. A tilt command is carried out only when its number is the next one due."
-- The first sentence is the promises: each function is proved to give what its definition says, and the definitions
-- are the sentences of 01, and of 02 as far as it is built, each beside its words (specs/ of `limits`, `frame`, `record`,
-- `session`, `station`, `xid`, `negotiation`, `xid_answer`, `message`, `poll`, `inform`, `states`, `link`, `speech`,
-- `device`). Here stand the other two, and what shuts out a device that is always silent and a decoder that refuses
-- everything. Proved by citation. Assumes nothing.
use Rattle.std.proofs.Common.{Ok}
use mathlib.Core.Path.{◌≡◌, refl, ap, ◌∙◌}
use mathlib.Core.Bool.{true, false}
use mathlib.Core.List.{List, [], ◌∷◌}
use mathlib.Core.Logic.{◌↔◌}
use mathlib.Core.Option.{some}
use Prim.Native.Nat.{ℕ, ◌+◌, ◌-◌, ◌*◌, ◌≤◌}
use native.Mathlib.Omega.{arith}
use lib.ListN.{length, take, drop}
use Rattle.octets.specs.Octets.{Octets, ◌at_start_of◌}
use Rattle.refusal.specs.Answer.{Answer, gives, out_after}
use Rattle.refusal.proofs.Answers.{in-room, handed, octets-told, hands-is}
use Rattle.refusal.proofs.Only.{hands-only}
use Rattle.frame.proofs.decode.Reads as decode-reads
use Rattle.writer.proofs.write.Reads as write-reads
use Rattle.frame.specs.Line.{Needed, inside}
use Rattle.frame.specs.Decode.{decoded}
use Rattle.frame.specs.Write.{line_of, written}
use Rattle.frame.proofs.Exact.{write-line}
use Rattle.frame.proofs.Lengths.{line-most, write-fits}
use Rattle.frame.proofs.Trip.{trip, round_trip}
use Rattle.frame.proofs.Unique.{unique}
use Rattle.control.specs.Control.{asked_by}
use Rattle.control.specs.declared.Order.TheVariants.{Info}
use Rattle.record.specs.declared.Session.{Session}
use Rattle.record.specs.declared.Link.TheVariants.{Connected}
use Rattle.record.specs.declared.Device.{Device}
use Rattle.record.specs.declared.Event.{Event}
use Rattle.limits.specs.Limits.{is_limit}
use Rattle.limits.proofs.Exactly.{is-limit-exactly, limit-least}
use Rattle.record.specs.Allowed.{limit_of, allowed_device}
use Rattle.record.proofs.Stays.{limit-allowed}
use Rattle.session.specs.Session.{good_number, accepts}
use Rattle.session.proofs.Numbers.{accepts-exactly}
use Rattle.acknowledge.specs.Acknowledge.{session_after, acknowledged}
use Rattle.message.specs.Messages.{asked_of, Due}
use Rattle.xid.specs.Meaning.{Answers, Takes}
use Rattle.xid.specs.Match.{read_of}
use Rattle.xid.specs.declared.Xid.TheVariants as xid
use Rattle.xid.proofs.Exactly.{scan-exactly, assignment-exactly}
use Rattle.station.specs.Turns.{saying}
use Rattle.states.specs.States.{on_snrm, new_session}
use Rattle.link.specs.Frames.{control_of, Numbered}
use Rattle.conduct.specs.Conduct.{after, starts, TiltDue, TiltStarted, occur_all, Meeting, run}
use Rattle.conduct.specs.Comes.{Comes, left, says}
use Rattle.conduct.specs.Spelt.{octets_said}
use Rattle.conduct.specs.Account.{Account}
use Rattle.conduct.proofs.Says.{says-octets}
use Rattle.conduct.proofs.Comes.{comes, comes-so, silence-keeps, unaccepted-leaves}
use Rattle.conduct.proofs.Motions.{owing-exactly}
use Rattle.conduct.proofs.Account.{account}
use Rattle.station.specs.declared.Say.{Say}
use Rattle.antenna.specs.declared.Angle.{Angle}
use Rattle.antenna.specs.declared.Motion.TheVariants.{Owing}
use Rattle.link.specs.Link.{has_address, judged_frame}
use Rattle.conduct.proofs.Settles.{r-kept}
use Rattle.conduct.proofs.Runs.{run-allowed}
use Rattle.conduct.proofs.Limits.{NoneAsks, unasked-least}
use Rattle.conduct.proofs.Due.{starts-exactly, due-moves-on}
use Rattle.conduct.proofs.Again.{starts-once}
use Rattle.conduct.proofs.Answers.{snrm-answered, snrm-address, snrm-connects}
use Rattle.speech.specs.Speech.{control_by, payload_by, frame_by}
use Rattle.device.specs.Judge.{Reaction, reacts, reaction_of, judged, heard_by, heard, said_of, size_of, told_of, device_after}
use Rattle.device.specs.Judge.{frame_at, buffer_after}
use Rattle.device.proofs.judge.Reads as judge-reads
use Rattle.device.proofs.Says.{judged-octets}
use Rattle.device.proofs.Exact.{judge-answer}
use Rattle.device.proofs.Fits.{address-fits}

-- ---- "A frame that we write reads back as what was put in"

-- of the code, for every frame limit: whatever `write` hands out for an address, a control and a payload, `decode` with that
-- limit or a higher one gives those for what lies between its flags, into any output that has room for them. Of both, all
-- that is used is what their callers learn.
pub written-reads-back : (κs : _) (a : _) (n : ℕ) (s : _) (κs' : _) (a' : _) (r : _) (s' : _)
    → write-reads.Learnt κs a (Ok n) s → decode-reads.Learnt κs' a' r s' → a.0 ≤ a'.0 → is_limit a'.0 ≡ true
    → let b = a.1.0 ∷ a.1.1.0 ∷ a.1.1.1.0.now in Octets b
    → a'.1.0.now ≡ inside (take n s.1.1.1.1.0.now) → length b ≤ length a'.1.1.0.now
    → (r ≡ Ok (length b)) × (s'.1.1.0.now ≡ b at_start_of a'.1.1.0.now)
unfolding out_after
written-reads-back κs a n s κs' a' r s' w v up ok os e h =
    let p = a.1.1.1.0.now in
    let line = (write-line a.0 a.1.0 a.1.1.0 p _ _).0 (octets-told _ w).0 in
    let u = a'.1.1.0.now in
    let back =
    round_trip a.0 a'.0 line.0 ok up a.1.0 a.1.1.0 p _ _ _ _ os line.1 (omega (arith, h)) w
    (hands-is (ap (λ (l : List ℕ). decoded a'.0 l (length u)) e) v) in
    let out = hands-only back (handed (a.1.0 ∷ a.1.1.0 ∷ p) refl (omega arith) refl) in
    (out.0, back.octets)

-- another line may decode alike, but only by needless escapes
pub one_line : (N room : ℕ) (s b : List ℕ) → Octets s → Needed s → decoded N s room ≡ gives b → s ≡ inside (line_of b)
one_line = unique

-- what is put in is written, where the line has room for it
pub payload-written : (N : ℕ) → is_limit N ≡ true → (a c : ℕ) (p : List ℕ) (room : ℕ) → length p ≤ N - 4
    → length (line_of (a ∷ c ∷ p)) ≤ room → written N a c p room ≡ gives (line_of (a ∷ c ∷ p))
payload-written = write-fits

-- "It needs exactly the octets it writes, at most 158", which is 2N + 2
pub line-longest : (N a c : ℕ) (p : List ℕ) → is_limit N ≡ true → length p ≤ N - 4
    → length (line_of (a ∷ c ∷ p)) ≤ 2 * N + 2
line-longest N a c p ok h = line-most N a c p (omega (arith, ((is-limit-exactly N).0 ok).0)) h

pub line-158 : (a c : ℕ) (p : List ℕ) → length p ≤ 74 → length (line_of (a ∷ c ∷ p)) ≤ 158
line-158 a c p h = line-longest 78 a c p limit-least h

-- a device that hears the line judges what was put in, up to the frame limit of its link: no number of the decoder
pub written-heard : (d : Device) (a c : ℕ) (p : List ℕ) (room : ℕ) → is_limit (limit_of d) ≡ true → Octets (a ∷ c ∷ p)
    → length p ≤ limit_of d - 4 → heard d (inside (line_of (a ∷ c ∷ p))) room ≡ judged d (a ∷ c ∷ p) room
unfolding heard heard_by
written-heard d a c p room ok os h =
    let size = (is-limit-exactly (limit_of d)).0 ok in
    ap (heard_by d room)
    (trip (a ∷ c ∷ p) os (limit_of d) ok 258 (omega arith) (omega (arith, size.0))
    ∙ in-room (a ∷ c ∷ p) 258 (omega (arith, size.0, size.1)))

-- ---- "A tilt command is carried out only when its number is the next one due"

module _ (d : Device) (f : List ℕ) where
  -- a movement starts exactly then: an I-frame at the own address, in a session, with a good N(R) and the number due,
  -- nothing pending, the message 33 02 00 lo hi in range, nothing that moves or waits
  pub tilt-exactly : starts d f ≡ true ↔ TiltDue d f
  tilt-exactly = starts-exactly d f

  -- and so: its number was R, the next one due
  pub tilt-number : starts d f ≡ true → (s : Session) × (n : ℕ) × (r : ℕ) × (d.station.link ≡ Connected s)
      × (asked_by (control_of f) ≡ Info n r) × (n ≡ s.r) × (good_number s r ≡ true) × Due d.antenna (drop 2 f)
  tilt-number e =
      let w = (starts-exactly d f).0 e in
      let s = w.session in
      let number = ((accepts-exactly (session_after s w.nr) w.ns).0 w.frame.accepted).1 ∙ r-kept s w.nr in (
        s,
        w.ns,
        w.nr,
        w.frame.numbered.link,
        w.frame.numbered.own.order,
        number,
        w.frame.numbered.good,
        w.message,
      )

  -- over the motion: after a frame a movement towards t is owed and was not before exactly if the frame is such a one and
  -- asks t. So no other frame starts a movement, and none aims a running one anew.
  pub tilt-owed : (t : Angle) → ((after d f).antenna.motion ≡ Owing t) × (d.antenna.motion ≡ Owing t → ⊥)
      ↔ TiltDue d f × (asked_of (drop 2 f) ≡ t)
  tilt-owed = owing-exactly d f

  -- "Any other isn't carried out and moves nothing": what it acknowledges is removed, and nothing else changes
  pub not-accepted : (s : Session) (n r : ℕ) → Numbered d f (Info n r) r s → accepts (session_after s r) n ≡ false
      → after d f ≡ acknowledged d s r
  not-accepted = unaccepted-leaves d f

  -- R has moved on, RR is said, and the rest of the device is as it was
  pub tilt-started : (w : TiltDue d f) → TiltStarted d f w.session w.nr
  tilt-started = due-moves-on d f

  -- the same frame again, whatever events come between, starts none
  pub tilt-once : (es : List Event) → starts d f ≡ true → starts (occur_all (after d f) es) f ≡ false
  tilt-once es = starts-once d f es

-- ---- "link states .. and commands": what a frame may change, whole

module _ (d : Device) (f : List ℕ) where
  -- every frame is one of the cases of 01's section "The link", and of 02 (iv), to a device, and leaves and says what its
  -- case has
  pub some-case : Comes d f
  some-case = comes d f

  pub each-case : (c : Comes d f) → judged_frame d f ≡ saying (left d f c) (says d f c)
  each-case = comes-so d f

  -- and what its case has stands octet by octet in conduct/specs/Spelt
  pub each-octet : (c : Comes d f) → frame_by (left d f c) (says d f c) ≡ octets_said d f c
  each-octet = says-octets d f

  -- part by part: when exactly address, frame limit, link state, R and S, alarms, subscription, motion and what is pending change
  pub changes : Account d f
  changes = account d f

  -- silence changes no device
  pub silent-same : (judged_frame d f).say ≡ Say.Silence → after d f ≡ d
  silent-same = silence-keeps d f

-- and so does whatever `judge` gives for an allowed device and a buffer of N - 2 octets or more (76 with 01's limit): the
-- device, what is said, and every octet of the buffer are those of the case
pub judge-case : (κs : _) (a : _) (r : _) (s : _) → judge-reads.Learnt κs a r s → allowed_device a.0.now ≡ true
    → limit_of a.0.now - 2 ≤ length a.1.1.0.now → (c : Comes a.0.now a.1.0.now)
    → let g = octets_said a.0.now a.1.0.now c in (s.0.now ≡ left a.0.now a.1.0.now c)
    × (said_of r ≡ gives (size_of g)) × (s.1.1.0.now ≡ frame_at g a.1.1.0.now)
unfolding told_of device_after buffer_after
judge-case κs a r s w allowed room c =
    let d = a.0.now in
    let o = a.1.1.0.now in
    let is = judged-octets d a.1.0.now (length o) allowed room c in (
      w.device ∙ ap (λ (x : Answer Reaction). device_after x d) is,
      w.said ∙ ap told_of is,
      w.buffer ∙ ap (λ (x : Answer Reaction). buffer_after x o) is,
    )

-- ---- "address matching"

-- a payload is a scan for the identity i, or an assignment of the address a to it, exactly as 01 says;
-- a type or a vendor that is the wild card matches, by 02 (ii)
pub matching : (i m : List ℕ) (a : ℕ) → (read_of i m ≡ xid.Scan ↔ Answers i m)
    × (read_of i m ≡ xid.Assignment a ↔ Takes i m a)
matching i m a = (scan-exactly i m, assignment-exactly i m a)

-- ---- no device is always silent

module _ (d : Device) (allowed : allowed_device d ≡ true) (assigned : has_address d.station.link ≡ true) where
  -- SNRM, written on the line to an assigned device, gets UA from its address
  pub snrm-heard : (room : ℕ) → limit_of d - 2 ≤ room
      → heard d (inside (line_of (d.station.desk.address ∷ 0x93 ∷ []))) room
      ≡ gives
      (record { device = on_snrm d d.station.link; frame = some (d.station.desk.address ∷ 0x73 ∷ []) })
  unfolding reacts saying frame_by control_by payload_by
  snrm-heard room h =
      let a = d.station.desk.address in
      written-heard d a 0x93 [] room (limit-allowed d allowed)
      (omega (arith, address-fits d allowed), (omega arith, tt)) (omega arith)
      ∙ (judge-answer d (a ∷ 0x93 ∷ []) room _).1 (
        allowed,
        h,
        ap reaction_of (snrm-answered d allowed assigned)
            ∙ ap (λ (x : ℕ). record { device = on_snrm d d.station.link; frame = some (x ∷ 0x73 ∷ []) })
            (snrm-address d d.station.link),
      )

  -- into 76 octets, with 01's limit
  pub snrm-heard-78 : limit_of d ≡ 78 → heard d (inside (line_of (d.station.desk.address ∷ 0x93 ∷ []))) 76
      ≡ gives
      (record { device = on_snrm d d.station.link; frame = some (d.station.desk.address ∷ 0x73 ∷ []) })
  snrm-heard-78 is = snrm-heard 76 (omega (arith, is))

  -- and a new session
  pub snrm-session : (after d (d.station.desk.address ∷ 0x93 ∷ [])).station.link ≡ Connected new_session
  snrm-session = snrm-connects d allowed assigned

-- ---- no frame and no event makes a record that would be refused

pub never-unallowed : (d : Device) (ms : List Meeting) → allowed_device d ≡ true → allowed_device (run d ms) ≡ true
never-unallowed = run-allowed

-- ---- nor one that leaves 01's frame limit, where no length is asked of it: what is said with N here is then 01's, with 78

pub never-longer : (d : Device) (ms : List Meeting) → NoneAsks d ms → limit_of d ≡ 78 → limit_of (run d ms) ≡ 78
never-longer = unasked-least
