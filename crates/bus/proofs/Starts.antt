-- SNRM, written as a line to an address: a device that holds the address answers UA and is connected, one that holds
-- another is silent and stays as it was. So SNRM to each address in turn begins a session in every device, where no two
-- hold the same. Assumes nothing.
use mathlib.Core.Path.{◌≡◌, refl, sym, ap, ◌∙◌}
use mathlib.Core.Bool.{true}
use mathlib.Core.Logic.{◌⊎◌, inl, inr}
use mathlib.Core.List.Memᴰ
use mathlib.Core.List.{List, [], ◌∷◌, map, Memᴰ}
use mathlib.Core.Option.{none, some}
use Prim.Native.Nat.{ℕ, ◌≤◌}
use native.Mathlib.Omega.{arith}
use borrow.Author.Tests.{ne_eqb}
use Rattle.refusal.specs.Answer.{gives}
use Rattle.identity.specs.Order.{Different}
use Rattle.identity.proofs.Lists.{map-out}
use Rattle.control.specs.Control.{polled}
use Rattle.record.specs.declared.Device.{Device}
use Rattle.record.specs.declared.Link.{Link}
use Rattle.record.specs.declared.Link.TheVariants.{AddressAssigned}
use Rattle.record.specs.Allowed.{allowed_device}
use Rattle.record.specs.Changes.{unsaid_at, emptied_as}
use Rattle.record.proofs.Stays.{sound, limited}
use Rattle.station.specs.declared.Turn.{Turn}
use Rattle.station.specs.Turns.{saying, mute}
use Rattle.states.specs.States.{begun, on_snrm, ua}
use Rattle.link.specs.Link.{has_address, is_own, addressed_by, controlled_by, judged_frame}
use Rattle.link.proofs.Judged.{judged-is}
use Rattle.speech.specs.Speech.{control_by, payload_by, frame_by}
use Rattle.device.specs.Judge.{reacts, reaction_of, device_after}
use Rattle.conduct.proofs.Addressed.{link-addressed, addressed-bounds}
use Rattle.conduct.proofs.Answers.{snrm-answered}
use Rattle.conduct.proofs.Stays.{stays-allowed}
use Rattle.bus.specs.Cable.{hears, after_line, after_lines, all_after_lines}
use Rattle.bus.specs.Install.{snrm_for}
use Rattle.bus.proofs.Hears.{hears-written, row-lines}
use Rattle.bus.proofs.Places.{map_same}

-- ---- one device

-- allowed, and in AddressAssigned
pub record Ready (d : Device) : Type 0 where
  pub allowed : allowed_device d ≡ true
  pub link : d.station.link ≡ AddressAssigned

module _ (d : Device) (w : Ready d) where
  -- the address is one of 1 to 254
  address-bounds : (1 ≤ d.station.desk.address) × (d.station.desk.address ≤ 254)
  address-bounds =
      addressed-bounds d.station.desk.address
      (link-addressed d.station.desk d.station.link (sound d w.allowed).link (ap has_address w.link))

  begins : judged_frame d (d.station.desk.address ∷ 0x93 ∷ []) ≡ saying (begun d) ua
  unfolding on_snrm
  begins = snrm-answered d w.allowed (ap has_address w.link) ∙ ap (λ (l : Link). saying (on_snrm d l) ua) w.link

  pub snrm-heard : hears d (snrm_for d)
      ≡ gives (record { device = begun d; frame = some (d.station.desk.address ∷ 0x73 ∷ []) })
  unfolding saying reacts frame_by control_by payload_by begun emptied_as unsaid_at
  snrm-heard =
      let (least, most) = address-bounds in
      hears-written d d.station.desk.address 0x93 [] w.allowed (omega arith) (omega arith)
      ∙ ap (λ (t : Turn). gives (reaction_of t)) begins

  pub snrm-alone : (o : Device) → allowed_device o ≡ true → (o.station.desk.address ≡ d.station.desk.address → ⊥)
      → hears o (snrm_for d) ≡ gives (record { device = o; frame = none })
  unfolding saying reacts frame_by controlled_by addressed_by is_own polled
  snrm-alone o fine other =
      let (least, most) = address-bounds in
      let a = d.station.desk.address in
      let silent : judged_frame o (a ∷ 0x93 ∷ []) ≡ mute o =
      judged-is o (a ∷ 0x93 ∷ []) (omega arith) (omega (arith, (limited o fine).0))
      ∙ rw (ne_eqb a 0xFF (λ e. omega arith), ne_eqb a o.station.desk.address (λ e. other (sym e))) in
      hears-written o a 0x93 [] fine (omega arith) (omega arith) ∙ ap (λ (t : Turn). gives (reaction_of t)) silent

  begun-allowed : allowed_device (begun d) ≡ true
  unfolding saying
  begun-allowed =
      rw (← ap (λ (t : Turn). t.device) begins)
      (stays-allowed d (d.station.desk.address ∷ 0x93 ∷ []) w.allowed)

-- ---- SNRM to each address in turn

abbrev address : Device → ℕ
address d = d.station.desk.address

-- none of the addresses is the device's
none-begins : (es : List Device) → ((e : Device) → Memᴰ e es → Ready e) → (o : Device) → allowed_device o ≡ true
    → (Memᴰ (address o) (map address es) → ⊥) → after_lines (map snrm_for es) o ≡ o
unfolding after_lines device_after
none-begins [] ready o fine other = refl
none-begins (e ∷ es) ready o fine other =
    let stays : after_line o (snrm_for e) ≡ o =
    rw (snrm-alone e (ready e (Memᴰ.head refl)) o fine (λ q. other (Memᴰ.head q))) in
    ap (after_lines (map snrm_for es)) stays
    ∙ none-begins es (λ b m. ready b (Memᴰ.tail m)) o fine (λ m. other (Memᴰ.tail m))

own-begins : (es : List Device) → ((e : Device) → Memᴰ e es → Ready e) → Different (map address es)
    → (o : Device) → Memᴰ o es → after_lines (map snrm_for es) o ≡ begun o
unfolding after_lines device_after begun emptied_as unsaid_at
own-begins [] ready apart o m = absurd (Memᴰ.not-nil m)
own-begins (e ∷ es) ready apart o m =
    go (own-begins es (λ b n. ready b (Memᴰ.tail n)) apart.1 o) (Memᴰ.cases_cons m)
  where
    good : Ready o
    good = ready o m

    go : (Memᴰ o es → after_lines (map snrm_for es) o ≡ begun o) → (o ≡ e) ⊎ Memᴰ o es
        → after_lines (map snrm_for es) (after_line o (snrm_for e)) ≡ begun o
    go more (inl q) =
        let now : after_line o (snrm_for o) ≡ begun o = rw (snrm-heard o good) in
        rw (← q)
        (ap (after_lines (map snrm_for es)) now
        ∙ none-begins es (λ b n. ready b (Memᴰ.tail n)) (begun o) (begun-allowed o good)
        (λ n. apart.0 (Memᴰ.cast (ap address (sym q)) n)))
    go more (inr t) =
        let other : (address o ≡ address e → ⊥) = λ q. apart.0 (Memᴰ.cast (sym q) (map-out address es o t)) in
        let stays : after_line o (snrm_for e) ≡ o =
        rw (snrm-alone e (ready e (Memᴰ.head refl)) o good.allowed other) in
        ap (after_lines (map snrm_for es)) stays ∙ more t

pub all-begin : (es : List Device) → ((e : Device) → Memᴰ e es → Ready e) → Different (map address es)
    → all_after_lines (map snrm_for es) es ≡ map begun es
all-begin es ready apart =
    row-lines (map snrm_for es) es ∙ map_same (after_lines (map snrm_for es)) begun es (own-begins es ready apart)
