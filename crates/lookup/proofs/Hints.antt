-- Laws of the hint: when it is true, what the header there tells, and that the end marker may be looked for from there. Assumes nothing.
use Rattle.std.specs.Prelude.{Ok, Some, Option}
use Prim.Native.Nat.{ℕ, ◌+◌, ◌-◌, ◌%◌, ◌≤◌}
use mathlib.Core.Path.{◌≡◌, refl, sym, ap, ◌∙◌}
use mathlib.Core.Bool.{Bool, true, false, not}
use mathlib.Core.List.{List}
use lib.ListN.{length}
use native.Mathlib.Omega.{arith}
use native.Mathlib.Nat.{add-zero}
use Rattle.wire.specs.Place.{cursor_at, padding_of, align_to}
use Rattle.wire.proofs.Moves.{seek_at, alignment_four}
use Rattle.wire.specs.declared.cursor.Cursor.{Cursor}
use Rattle.wire.specs.Place.{Place}
use Rattle.wire.specs.declared.settings.Settings.{Settings}
use Rattle.wire.specs.declared.settings.Version.TheVariants.{Xcdr1}
use Rattle.lookup.specs.Xcdr1.{seek_to_sentinel}
use Rattle.lookup.specs.declared.ahead.Ahead.{Ahead}
use Rattle.lookup.specs.declared.ahead.Hint.{Hint}
use Rattle.lookup.specs.Code.Ahead.{AheadIs, AheadAt, HeadAt, HeadOrEnd, MayStand, first_lookup, StartIs, TrueHint, hint_at, HeaderAhead}
use Rattle.lookup.proofs.Aheads.{lead_refl, ahead_located, ahead_next, ahead_place, lead_sentinel}

-- nothing is known at first but the start itself, and at the data's end nothing at all
pub true_start : (s : List ℕ) (set : Settings) (back : Cursor) (h : Hint) → h ≡ hint_at back.pos → MayStand s back → TrueHint s set back back.origin h
true_start s set back h f may =
    let o = may.after in
    let i = may.inside in
    let a = may.aligned in
    let e : h.next ≡ back.pos = ap (λ (x : Hint). x.next) f in
    record { place = record { inside = omega arith; head = λ k. record { after = omega arith; aligned = rw e a; inside = k } }; leads = λ k. rw e (lead_refl s set back h.least) }

pub true_nowhere : (s : List ℕ) (set : Settings) (back : Cursor) (origin : ℕ) (h : Hint) → h ≡ hint_at (length s) → TrueHint s set back origin h
true_nowhere s set back origin h f = let e : h.next ≡ length s = ap (λ (x : Hint). x.next) f in record { place = record { inside = omega arith; head = λ k. absurd (omega arith) }; leads = λ k. absurd (omega arith) }

-- a header stands there, where four bytes are left
pub head_there : (s : List ℕ) (pos origin : ℕ) → HeadOrEnd s pos origin → 4 ≤ length s - pos → HeadAt s pos origin
head_there s pos origin h k = let i = h.inside in h.head (omega arith)

pub ahead_at : (s : List ℕ) (set : Settings) (id : ℕ) (h : Hint) (origin : ℕ) (r : Option Ahead) → h.least ≤ id → HeadOrEnd s h.next origin → 4 ≤ length s - h.next → AheadIs s set id (cursor_at h.next origin) r → HeaderAhead s set id h origin r
unfolding AheadIs
ahead_at s set id h origin r from stands left is =
    record {
      small = λ a e. (told a e).own.small;
      near = λ a e. (told a e).near;
      found = λ back al hint a e. ahead_located s set id h.least back (cursor_at h.next origin) a al (hint.leads there) from (told a e);
      on = λ back hint a e. record { place = ahead_place s set id (cursor_at h.next origin) a (told a e); leads = λ f. ahead_next s set id h.least back (cursor_at h.next origin) a (hint.leads there) (omega arith) (told a e) f };
    }
  where
    there : h.next + 4 ≤ length s
    there = (head_there s h.next origin stands left).inside

    told : (a : Ahead) → r ≡ Some a → AheadAt s set id (cursor_at h.next origin) a
    told a e = rw e at is

-- a search for the end marker from the start is one from where the hint says
pub hinted_sentinel : (s : List ℕ) (set : Settings) (back : Cursor) (h : Hint) → TrueHint s set back back.origin h → set.version ≡ Xcdr1 → h.least ≤ 0x3F02 → 4 ≤ length s - h.next
    → (d : Cursor) → d ≡ cursor_at h.next back.origin → (r : Place) → r ≡ seek_to_sentinel s set d → r ≡ seek_to_sentinel s set back
hinted_sentinel s set back h hint v l left d e r is =
    let i = hint.place.inside in
    is ∙ ap (seek_to_sentinel s set) e ∙ sym (lead_sentinel s set back (cursor_at h.next back.origin) h.least v (hint.leads (omega arith)) l)

-- where the lookups begin
module _ (s : List ℕ) (set : Settings) (f : Bool) (c : Cursor) where
  pub already : c.pos ≤ length s → (c.pos - c.origin) % 4 ≡ 0 → align_to s set.version c 4 ≡ Ok c
  unfolding align_to padding_of
  already i a = rw (alignment_four set.version, a) (sym (seek_at s c 0 (omega arith)) ∙ ap (λ (x : ℕ). (Ok (cursor_at x c.origin))) (add-zero c.pos))

  stays : (g : Bool) → c.pos ≤ length s → (c.pos - c.origin) % 4 ≡ 0 → first_lookup s set g c ≡ Ok c
  unfolding first_lookup
  stays true i a = already i a
  stays false i a = refl

  pub start_aligned : MayStand s c → (h : Hint) → h ≡ hint_at c.pos → StartIs s set f c (Ok (c, h))
  unfolding StartIs
  start_aligned may h e = (stays f may.inside may.aligned, true_start s set c h e may)

  pub start_none : not f ≡ true → (h : Hint) → ((any : Settings) → TrueHint s any c c.origin h) → StartIs s set f c (Ok (c, h))
  unfolding StartIs first_lookup
  start_none e h t = (rw (negated f e), t set)
    where
      negated : (x : Bool) → not x ≡ true → x ≡ false
      negated true q = sym q
      negated false q = refl

  module _ (e : not f ≡ false) (p : Place) (is : p ≡ align_to s set.version c 4) where
    looked : first_lookup s set f c ≡ p
    unfolding first_lookup
    looked = rw (affirmed f e) (sym is)
      where
        affirmed : (x : Bool) → not x ≡ false → x ≡ true
        affirmed true q = refl
        affirmed false q = sym q

    pub start_at : (back : Cursor) → p ≡ Ok back → (h : Hint) → ((any : Settings) → TrueHint s any back back.origin h) → StartIs s set f c (Ok (back, h))
    unfolding StartIs
    start_at back q h t = (looked ∙ q, t set)
