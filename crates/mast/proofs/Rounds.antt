-- A line goes to every device on the cable, the last first; and one probe after the other. Assumes nothing.
use Rattle.std.specs.Prelude.{Some, None, Option, is_some}
use mathlib.Core.Path.{◌≡◌, refl, sym, ap, ap₂, ◌∙◌}
use mathlib.Core.Bool.{Bool, true, false, ◌||◌, or-false, true≢false, false≢true}
use mathlib.Core.List.{List, [], ◌∷◌, ◌++◌}
use Prim.Native.Nat.{ℕ, zero, suc, ◌+◌, ◌≤◌, ◌<◌, min}
use native.Mathlib.Omega.{arith}
use native.Mathlib.Numerals.{add-one}
use lib.Dec.{leb}
use borrow.Author.Tests.{leb-true, leb-false}
use lib.ListN.{length, take, drop, get_or, set, length-set, take-append-drop, drop_of_length-le}
use lib.Seq.{take_all}
use Rattle.refusal.specs.Answer.{Answer, gives, refuses, state_after}
use Rattle.record.specs.declared.Device.{Device}
use Rattle.scan.specs.declared.Scan.{Scan}
use Rattle.scan.specs.Scan.{probe_length, fresh, probed, reported}
use Rattle.bus.specs.Cable.{row_most, line_for, replies_to, after_line, any_replies, all_after}
use Rattle.bus.specs.Scanning.{Bus, one_probe_by, one_probe, probes_asked, scanned}
use Rattle.mast.specs.Mast.{on_cable, off_cable, with_devices, swept_by, swept}
use Rattle.mast.specs.Steps.{line_in, is_handed_out, Probing, Listens, Sends}
use Rattle.octets.specs.declared.Text.{Text}
use Rattle.limits.specs.Limits.{limit_least, line_most}
use Rattle.bus.specs.declared.Row.{Row}

-- ---- a line goes to every device

-- the first k of ds are left to hear the line l, and one behind them answered: b; the first n of ds₀ were to hear it
pub record Sending (l : List ℕ) (ds : List Device) (k : ℕ) (b : Bool) (ds₀ : List Device) (n : ℕ) : Type 0 where
  pub size : length ds ≡ row_most
  pub most : k ≤ row_most
  pub heard : (any_replies (take k ds) l || b) ≡ any_replies (take n ds₀) l
  pub devices : all_after (take k ds) l ++ drop k ds ≡ all_after (take n ds₀) l ++ drop n ds₀

-- no more than there are
few-same : (n : ℕ) (ds : List Device)
    → (take (min n (length ds)) ds ≡ take n ds) × (drop (min n (length ds)) ds ≡ drop n ds)
few-same n ds = go (leb n (length ds)) refl
  where
    go : (t : Bool) → leb n (length ds) ≡ t
        → (take (min n (length ds)) ds ≡ take n ds) × (drop (min n (length ds)) ds ≡ drop n ds)
    go true e =
        let h = leb-true n (length ds) e in
        let m : min n (length ds) ≡ n = omega arith in
        (ap (λ (k : ℕ). take k ds) m, ap (λ (k : ℕ). drop k ds) m)
    go false e =
        let h = leb-false n (length ds) e in (
          take_all (min n (length ds)) ds (omega arith) ∙ sym (take_all n ds (omega arith)),
          drop_of_length-le ds {i = min n (length ds)} (omega arith) ∙ sym (drop_of_length-le ds {i = n} (omega arith)),
        )

pub sending-all : (l : List ℕ) (ds : List Device) (n : ℕ) {k : ℕ} {b : Bool} → length ds ≡ row_most
    → k ≡ min n row_most → b ≡ false → Sending l ds k b ds n
sending-all l ds n {k} {b} size e f =
    let m : k ≡ min n (length ds) = omega arith in
    let (t, u) = few-same n ds in
    let t' : take k ds ≡ take n ds = ap (λ (j : ℕ). take j ds) m ∙ t in
    let u' : drop k ds ≡ drop n ds = ap (λ (j : ℕ). drop j ds) m ∙ u in
    record {
      size = size;
      most = omega arith;
      heard = rw (f, t') (or-false (any_replies (take n ds) l));
      devices = rw (t', u');
    }

module _ (l : List ℕ) (z : Device) where
  one-devices : (k : ℕ) (ds : List Device) → k < length ds
      → all_after (take k (set ds k (after_line (get_or ds k z) l))) l ++ drop k (set ds k (after_line (get_or ds k z) l))
      ≡ all_after (take (suc k) ds) l ++ drop (suc k) ds
  unfolding all_after
  one-devices k [] h = absurd (omega arith)
  one-devices zero (d ∷ ds) h = refl
  one-devices (suc k) (d ∷ ds) h = ap (λ (es : List Device). after_line d l ∷ es) (one-devices k ds (omega arith))

  one-heard : (k : ℕ) (ds : List Device) (b : Bool) (x : Device) → k < length ds
      → (any_replies (take k (set ds k x)) l || (replies_to (get_or ds k z) l || b)) ≡ (any_replies (take (suc k) ds) l || b)
  unfolding any_replies
  one-heard k [] b x h = absurd (omega arith)
  one-heard zero (d ∷ ds) b x h = go (replies_to d l)
    where
      go : (r : Bool) → (r || b) ≡ ((r || false) || b)
      go true = refl
      go false = refl
  one-heard (suc k) (d ∷ ds) b x h =
      go (replies_to d l) (any_replies (take k (set ds k x)) l) (any_replies (take (suc k) ds) l)
      (replies_to (get_or ds k z) l || b)
      (one-heard k ds b x (omega arith))
    where
      go : (r a c e : Bool) → (a || e) ≡ (c || b) → ((r || a) || e) ≡ ((r || c) || b)
      go true a c e f = refl
      go false a c e f = f

  -- the last of those that are left hears the line
  pub sending-one : {ds ds₀ : List Device} {j k n : ℕ} {b h b' : Bool} {d' : Device} → j ≡ k + 1
      → Sending l ds j b ds₀ n → Listens (get_or ds k z) l h d' → b' ≡ (h || b)
      → Sending l (set ds k d') k b' ds₀ n
  sending-one {ds} {j = j} {k} {b = b} {h} {d' = d'} e s w q =
      let inside : k < length ds = omega (arith, s.size, s.most) in
      let m : j ≡ suc k = e ∙ add-one k in
      record {
        size = length-set ds k d' ∙ s.size;
        most = omega (arith, s.most);
        heard =
            ap (λ (t : Bool). any_replies (take k (set ds k d')) l || t) (q ∙ ap (λ (t : Bool). t || b) w.heard)
            ∙ one-heard k ds b d' inside
            ∙ ap (λ (i : ℕ). any_replies (take i ds) l || b) (sym m)
            ∙ s.heard;
        devices =
            ap (λ (x : Device). all_after (take k (set ds k x)) l ++ drop k (set ds k x)) w.device
            ∙ one-devices k ds inside
            ∙ ap (λ (i : ℕ). all_after (take i ds) l ++ drop i ds) (sym m)
            ∙ s.devices;
      }

-- none is left
pub sending-none : (l : List ℕ) {ds ds₀ : List Device} {k n : ℕ} {b : Bool} → k ≡ 0 → Sending l ds k b ds₀ n
    → Sends ds₀ n l b ds
unfolding any_replies all_after
sending-none l e s = record { heard = rw e at s.heard; devices = rw e at s.devices }

-- ---- one probe after the other

-- the bus of the scan s, and the devices on the cable of the row
abbrev now : Row → Scan → Bus
now row s = record { scan = s; devices = on_cable row }

-- n probes are left, with the scan s and the row r; with the first row, the limit's number of them was
pub record Sweeping (n : ℕ) (s : Scan) (r row : Row) (limit : ℕ) : Type 0 where
  pub count : r.count ≡ row.count
  pub ahead : probes_asked n (now r s) ≡ scanned limit (on_cable row)
  pub behind : off_cable r ≡ off_cable row

-- what is on the cable after a line, and what is behind it
cable-after : (n : ℕ) (ds : List Device) (l : List ℕ)
    → (take n (all_after (take n ds) l ++ drop n ds) ≡ all_after (take n ds) l)
    × (drop n (all_after (take n ds) l ++ drop n ds) ≡ drop n ds)
unfolding all_after
cable-after zero ds l = (refl, refl)
cable-after (suc n) [] l = (refl, refl)
cable-after (suc n) (d ∷ ds) l =
    let (t, u) = cable-after n ds l in (ap (λ (es : List Device). after_line d l ∷ es) t, u)

pub sweeping-all : (row : Row) (limit : ℕ) {n : ℕ} {s : Scan} → n ≡ limit → s ≡ fresh limit
    → Sweeping n s row row limit
unfolding scanned
sweeping-all row limit e f = record { count = refl; ahead = rw (e, f); behind = refl }

-- a scan that asks no more stays
stays : (n : ℕ) (b : Bus) → is_handed_out (probed b.scan probe_length) ≡ false → probes_asked n b ≡ b
unfolding probes_asked one_probe one_probe_by is_handed_out
stays zero b e = refl
stays (suc n) b e = ap (probes_asked n) (one (probed b.scan probe_length) refl e) ∙ stays n b e
  where
    one : (x : Answer (List ℕ)) → probed b.scan probe_length ≡ x → is_handed_out x ≡ false → one_probe b ≡ b
    one (gives f) g e = absurd (true≢false e)
    one (refuses k) g e = ap (one_probe_by b) g

module _ (row : Row) (limit : ℕ) {s : Scan} {r : Row} where
  -- a probe is asked, heard and reported
  pub sweeping-one : {m n : ℕ} {a : Option (Text (line_most limit_least))} {w : Text (line_most limit_least)} {b : Bool} {es : List Device} {t : Scan} → m ≡ n + 1
      → Sweeping m s r row limit → Probing (probed s probe_length) a → a ≡ Some w
      → Sends r.devices r.count (line_in w) b es → t ≡ state_after (reported s b) s
      → Sweeping n t (record { devices = es; count = r.count }) row limit
  unfolding probes_asked one_probe one_probe_by is_handed_out
  sweeping-one {m} {n} {a} {w} {b} {es} {t} e left asked asks sent told =
      go (probed s probe_length) refl (sym asked.asks ∙ ap is_some asks)
    where
      k : ℕ
      k = r.count

      ds : List Device
      ds = r.devices

      one : (f : List ℕ) → probed s probe_length ≡ gives f
          → record { scan = t; devices = take k es } ≡ one_probe_by (now r s) (gives f)
      one f g =
          let l : line_in w ≡ line_for f = asked.line f w g asks in
          let x : t ≡ state_after (reported s (any_replies (take k ds) (line_for f))) s =
          told ∙ ap (λ (y : Bool). state_after (reported s y) s) (sent.heard ∙ ap (any_replies (take k ds)) l) in
          let y : take k es ≡ all_after (take k ds) (line_for f) =
          ap (take k) sent.devices ∙ (cable-after k ds (line_in w)).0 ∙ ap (all_after (take k ds)) l in
          ap₂ (λ (u : Scan) (vs : List Device). record { scan = u; devices = vs }) x y

      go : (x : Answer (List ℕ)) → probed s probe_length ≡ x → is_handed_out x ≡ true
          → Sweeping n t (record { devices = es; count = k }) row limit
      go (refuses j) g i = absurd (false≢true i)
      go (gives f) g i =
          record {
            count = left.count;
            ahead =
                ap (probes_asked n) (one f g ∙ sym (ap (one_probe_by (now r s)) g))
                ∙ sym (ap (λ (j : ℕ). probes_asked j (now r s)) (e ∙ add-one n))
                ∙ left.ahead;
            behind = ap (drop k) sent.devices ∙ (cable-after k ds (line_in w)).1 ∙ left.behind;
          }

  -- nothing is left to ask
  sweeping-end : {n : ℕ} → Sweeping n s r row limit → now r s ≡ scanned limit (on_cable row)
      → record { scan = s; row = r } ≡ swept row limit
  unfolding swept swept_by with_devices
  sweeping-end w e =
      let all : r.devices ≡ on_cable r ++ off_cable row =
      sym (take-append-drop r.count r.devices) ∙ ap (λ (es : List Device). on_cable r ++ es) w.behind in
      ap₂ (λ (es : List Device) (k : ℕ). record { scan = s; row = record { devices = es; count = k } }) all w.count
      ∙ ap (swept_by row) e

  -- no probe is left, or the scan gives none
  pub sweeping-none : {n : ℕ} → n ≡ 0 → Sweeping n s r row limit → record { scan = s; row = r } ≡ swept row limit
  unfolding probes_asked
  sweeping-none e w = sweeping-end w (rw e at w.ahead)

  pub sweeping-over : {n : ℕ} {a : Option (Text (line_most limit_least))} → Sweeping n s r row limit → Probing (probed s probe_length) a
      → a ≡ None → record { scan = s; row = r } ≡ swept row limit
  sweeping-over {n} w asked over =
      sweeping-end w (sym (stays n (now r s) (sym asked.asks ∙ ap is_some over)) ∙ w.ahead)
