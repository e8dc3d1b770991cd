-- The member that comes next: what the searches from two places have in common, and what one header that matches settles. Assumes nothing.
use Rattle.std.specs.declared.ops.ControlFlow.TheVariants.{Break, Continue}
use Rattle.std.specs.Prelude.{min, Err, None, Ok, Some, Option}
use Prim.Native.Nat.{ℕ, ◌+◌, ◌-◌, ◌*◌, ◌%◌, ◌<◌, ◌≤◌, ◌^◌}
use mathlib.Core.Path.{◌≡◌, refl, sym, ap, ◌∙◌}
use mathlib.Core.Bool.{Bool, true, false}
use mathlib.Core.List.{List}
use native.Mathlib.Omega.{arith}
use lib.ListN.{length}
use lib.Dec.{eqb, leb}
use borrow.Author.Tests.{eq-eqb, ne_eqb, lt-ltb, le-ltb, leb-true, leb-false}
use Rattle.ground.specs.Choice.{pick, both, ◌‥◌, within}
use Rattle.wire.specs.Place.{cursor_at, short_at, alignment_of, padding_of, seek_to, align_to, after_move}
use Rattle.wire.specs.Number.{number_at, read_number, after_number}
use Rattle.wire.specs.declared.settings.Settings.{Settings}
use Rattle.wire.specs.declared.settings.Mode.{Mode}
use Rattle.wire.specs.declared.settings.Mode.TheVariants.{Crate, Standard}
use Rattle.wire.specs.declared.settings.Version.{Version}
use Rattle.wire.specs.declared.settings.Version.TheVariants.{Xcdr1, Xcdr2}
use Rattle.wire.specs.declared.cursor.Cursor.{Cursor}
use Rattle.wire.proofs.Moves.{seek_at, seek_short, alignment_own, alignment_four, padding_by}
use Rattle.wire.proofs.Numbers.{Moved, read_aligned}
use Rattle.lookup.specs.Search.{Seek, Turn, past_value, on_to, seek_by}
use Rattle.lookup.specs.Xcdr1 as xcdr1
use Rattle.lookup.specs.Xcdr2 as xcdr2
use Rattle.lookup.specs.Member.{asked_for, located_v1, located_v2, looked_up, locate}
use Rattle.lookup.specs.Code.Ahead.{search_by, Leads, HeaderId, NextIs, ahead_of, AheadAt, AheadIs, value_at, HeadAt, HeadOrEnd, LongHead, PassedTo, PassedNear}
use Rattle.lookup.specs.declared.ahead.Ahead.{Ahead}
use Rattle.lookup.proofs.Turns.{short_on, place_same, seek_done, seek_on}
use Rattle.lookup.proofs.Xcdr1Turns as turns1
use Rattle.lookup.proofs.Xcdr2Turns as turns2

-- one header, in the version's own way, and the search by it
pub turn_by : List ℕ → Settings → Version → ℕ → Cursor → Turn
turn_by s set Xcdr1 id c = xcdr1.turn_at s set id c
turn_by s set Xcdr2 id c = xcdr2.turn_at s set id c

module _ (s : List ℕ) (set : Settings) where
  pub by_turns : (v : Version) (id : ℕ) (c : Cursor) → search_by s set v id c ≡ seek_by s (turn_by s set v id) c
  unfolding search_by turn_by xcdr1.seek_to_pid xcdr2.seek_to_pid
  by_turns Xcdr1 id c = refl
  by_turns Xcdr2 id c = refl

  pub moves_by : (v : Version) (id : ℕ) (c d : Cursor) → turn_by s set v id c ≡ Ok (Continue d) → Moved s c 4 d
  unfolding turn_by
  moves_by Xcdr1 id c d e = turns1.turn_moves s set id c d e
  moves_by Xcdr2 id c d e = turns2.turn_moves s set id c d e

  pub by_turn1 : (v : Version) (id : ℕ) (c : Cursor) → v ≡ Xcdr1 → turn_by s set v id c ≡ xcdr1.turn_at s set id c
  unfolding turn_by
  by_turn1 v id c e = rw e

  pub by_turn2 : (v : Version) (id : ℕ) (c : Cursor) → v ≡ Xcdr2 → turn_by s set v id c ≡ xcdr2.turn_at s set id c
  unfolding turn_by
  by_turn2 v id c e = rw e

-- a search from the one place is a search from the other
module _ (s : List ℕ) (set : Settings) where
  pub lead_refl : (c : Cursor) (n : ℕ) → Leads s set c c n
  unfolding Leads
  lead_refl c n id l = refl

  lead_trans : (a b c : Cursor) (m n : ℕ) → Leads s set a b m → Leads s set b c n → m ≤ n → Leads s set a c n
  unfolding Leads
  lead_trans a b c m n f g h id l = f id (omega arith) ∙ g id l

-- what a header settles: it is the wanted one's, and for every later id it is passed over
module _ (s : List ℕ) (set : Settings) (id : ℕ) (at y : Cursor) (n : ℕ) (kept : y.origin ≡ at.origin) (own : HeaderId set.version id) (miss : (w : ℕ) → id + 1 ≤ asked_for set.version w → turn_by s set set.version w at ≡ on_to (past_value s set y n)) where
  next_is : (q : ℕ) → PassedTo s y n q → NextIs s set id at q
  unfolding NextIs PassedTo Leads
  next_is q p = (
    rw kept at p.0,
    λ h w l.
        by_turns s set set.version w at
        ∙ seek_on s (turn_by s set set.version w) (moves_by s set set.version w) at (cursor_at q at.origin) (miss w l ∙ ap on_to (p.1 h set) ∙ ap (λ (o : ℕ). Ok (Continue (cursor_at q o))) kept)
        ∙ sym (by_turns s set set.version w (cursor_at q at.origin)),
  )

  made : (m value next : ℕ) (a : Ahead) → a ≡ ahead_of value m next → turn_by s set set.version id at ≡ Ok (Break (Some (m, cursor_at value at.origin))) → (set.version ≡ Xcdr1 → 0 < m) → PassedTo s y n next → value + m ≤ length s + 2 ^ 36 → AheadIs s set id at (Some a)
  unfolding AheadIs
  made m value next a e hit some p near =
      rw e (record {
        found = by_turns s set set.version id at ∙ seek_done s (turn_by s set set.version id) at _ hit;
        some = some;
        own = own;
        next = next_is next p;
        near = near;
      })

-- past a value: the alignment to 4 is the same in both versions
module _ (s : List ℕ) (pos n origin : ℕ) where
  pub passed_end : PassedTo s (cursor_at pos origin) n (length s)
  unfolding PassedTo
  passed_end = (record { inside = omega arith; head = λ h. absurd (omega arith) }, λ h. absurd (omega arith))

  passed_on : (set : Settings) (p : ℕ) → p ≡ (4 - (pos + n - origin) % 4) % 4 → pos + n + p ≤ length s → past_value s set (cursor_at pos origin) n ≡ Ok (cursor_at (pos + n + p) origin)
  unfolding past_value after_move align_to padding_of
  passed_on set p e h =
      let a : seek_to s (cursor_at pos origin) n ≡ (Ok (cursor_at (pos + n) origin)) = sym (seek_at s (cursor_at pos origin) n (omega arith)) in
      let b : seek_to s (cursor_at (pos + n) origin) p ≡ (Ok (cursor_at (pos + n + p) origin)) = sym (seek_at s (cursor_at (pos + n) origin) p h) in
      rw (a, alignment_four set.version, ← e, b)

  pub passed_to : (p : ℕ) → p ≡ (4 - (pos + n - origin) % 4) % 4 → origin ≤ pos → pos + n + p ≤ length s → PassedTo s (cursor_at pos origin) n (pos + n + p)
  unfolding PassedTo
  passed_to p e o h =
      (record { inside = h; head = λ k. record { after = omega arith; aligned = omega arith; inside = k } }, λ k set. passed_on set p e h)

  -- to nowhere, where that is past the end
  not_passed : (set : Settings) (p : ℕ) → p ≡ (4 - (pos + n - origin) % 4) % 4 → length s < pos + n + p → (y : Cursor) → past_value s set (cursor_at pos origin) n ≡ Ok y → ⊥
  unfolding past_value after_move align_to padding_of
  not_passed set p e h y q = go (leb (pos + n) (length s)) refl
    where
      go : (t : Bool) → leb (pos + n) (length s) ≡ t → ⊥
      go true l =
          let a : seek_to s (cursor_at pos origin) n ≡ (Ok (cursor_at (pos + n) origin)) = sym (seek_at s (cursor_at pos origin) n (leb-true _ _ l)) in
          let b : seek_to s (cursor_at (pos + n) origin) p ≡ (Err (short_at s (cursor_at (pos + n) origin) p)) = sym (seek_short s (cursor_at (pos + n) origin) p h) in
          short_on (short_at s (cursor_at (pos + n) origin) p) y (rw (a, alignment_four set.version, ← e, b) at q)
      go false l =
          let a : seek_to s (cursor_at pos origin) n ≡ (Err (short_at s (cursor_at pos origin) n)) = sym (seek_short s (cursor_at pos origin) n (leb-false _ _ l)) in
          short_on (short_at s (cursor_at pos origin) n) y (rw a at q)

  pub near_where_cut : (p : ℕ) → p ≡ (4 - (pos + n - origin) % 4) % 4 → length s < pos + n + p → PassedNear s (cursor_at pos origin) n (length s)
  unfolding PassedNear
  near_where_cut p e h = (λ k set y q. absurd (not_passed set p e h y q), λ k. k)

  pub near_where_passed : (p : ℕ) → p ≡ (4 - (pos + n - origin) % 4) % 4 → pos + n + p ≤ length s → PassedNear s (cursor_at pos origin) n (pos + n + p)
  unfolding PassedNear
  near_where_passed p e h = (λ k set y q. near k (place_same _ y (sym (passed_on set p e h) ∙ q)), λ k. omega arith)
    where
      near : length s < pos + n + p + 4 → {y : Cursor} → cursor_at (pos + n + p) origin ≡ y → length s < y.pos + 4
      near k {y} f = let g = ap (λ (z : Cursor). z.pos) f in omega (arith, k, g)

  -- .. or the data's end, where that is nearer
  passed : (m r : ℕ) → m ≡ pos + n - origin + (4 - (pos + n - origin) % 4) % 4 → r ≡ min (origin + m) (length s) → origin ≤ pos → PassedTo s (cursor_at pos origin) n r × PassedNear s (cursor_at pos origin) n r
  passed m r up is o = go ((4 - (pos + n - origin) % 4) % 4) refl (leb (origin + m) (length s)) refl
    where
      go : (p : ℕ) → p ≡ (4 - (pos + n - origin) % 4) % 4 → (t : Bool) → leb (origin + m) (length s) ≡ t → PassedTo s (cursor_at pos origin) n r × PassedNear s (cursor_at pos origin) n r
      go p e true l =
          let to : origin + m ≡ pos + n + p = omega (arith, up, e) in
          let f : r ≡ pos + n + p = omega (arith, is, to, leb-true _ _ l) in
          let i : pos + n + p ≤ length s = omega (arith, to, leb-true _ _ l) in
          rw f (passed_to p e o i, near_where_passed p e i)
      go p e false l =
          let to : origin + m ≡ pos + n + p = omega (arith, up, e) in
          let f : r ≡ length s = omega (arith, is, leb-false _ _ l) in
          rw f (passed_end, near_where_cut p e (omega (arith, to, leb-false _ _ l)))

  module _ (m r : ℕ) (up : m ≡ pos + n - origin + (4 - (pos + n - origin) % 4) % 4) (is : r ≡ min (origin + m) (length s)) (o : origin ≤ pos) where
    pub passed_at : PassedTo s (cursor_at pos origin) n r
    passed_at = (passed m r up is o).0

    pub passed_near : PassedNear s (cursor_at pos origin) n r
    passed_near = (passed m r up is o).1

-- the ids that headers have
asked2 : (ver : Version) (w : ℕ) → ver ≡ Xcdr2 → asked_for ver w ≡ w
unfolding asked_for
asked2 Xcdr1 w e = absurd (let y : ◌≡◌ {A = ℕ} 0 1 = cc in omega arith)
asked2 Xcdr2 w e = refl

asked1 : (ver : Version) (w : ℕ) → ver ≡ Xcdr1 → asked_for ver w ≡ w % 2 ^ 16
unfolding asked_for
asked1 ver w e = rw e

-- what is said of XCDR1 alone
only2 : (ver : Version) (n : ℕ) → ver ≡ Xcdr2 → ver ≡ Xcdr1 → 0 < n
only2 Xcdr1 n e f = absurd (let y : ◌≡◌ {A = ℕ} 0 1 = cc in omega arith)
only2 Xcdr2 n e f = absurd (let y : ◌≡◌ {A = ℕ} 0 1 = cc in omega arith)

own2 : (ver : Version) (v : ℕ) → ver ≡ Xcdr2 → HeaderId ver (xcdr2.id_of v)
own2 ver v e = record { small = omega arith; uncut = asked2 ver (xcdr2.id_of v) e }

own1 : (ver : Version) (v : ℕ) → ver ≡ Xcdr1 → HeaderId ver (v % 16384)
own1 ver v e = let f = asked1 ver (v % 16384) e in record { small = omega arith; uncut = omega arith }

-- a header that stands with no padding before it
module _ (s : List ℕ) (set : Settings) (pos origin : ℕ) (head : HeadAt s pos origin) where
  no_padding : padding_of (cursor_at pos origin) 4 ≡ 0
  unfolding padding_of
  no_padding = rw head.aligned

  pub read4 : read_number s set (cursor_at pos origin) 4 ≡ Ok (number_at set.order 0 s pos 4, cursor_at (pos + 4) origin)
  read4 = read_aligned s set (cursor_at pos origin) 4 (rw (alignment_four set.version) no_padding) head.inside

  -- where NEXTINT is there too, it stands so as well
  pub nextint_head : 8 ≤ length s - pos → HeadAt s (pos + 4) origin
  nextint_head h = let a = head.after in let b = head.aligned in let i = head.inside in
      record { after = omega arith; aligned = omega arith; inside = omega arith }

-- the length that is found is the header's, or four more
length_near : (mode : Mode) (lc n m : ℕ) → m ≡ xcdr2.length_from mode lc n → m ≤ n + 4
unfolding xcdr2.length_from xcdr2.step_back
length_near Crate lc n m e = omega (arith, e)
length_near Standard lc n m e = go (within (5 ‥ 7) lc) e
  where
    go : (x : Bool) → m ≡ n + pick x 4 0 → m ≤ n + 4
    go true f = omega (arith, f)
    go false f = omega (arith, f)

-- an XCDR2 header
module _ (s : List ℕ) (set : Settings) (pos origin : ℕ) (head : HeadAt s pos origin) (version : set.version ≡ Xcdr2) (v : ℕ) (is : v ≡ number_at set.order 0 s pos 4) where
  module _ (n : ℕ) (y : Cursor) (told : xcdr2.length_of s set v (cursor_at (pos + 4) origin) ≡ Ok (n, y)) where
    pub turned2 : (w : ℕ) → xcdr2.turn_at s set w (cursor_at pos origin) ≡ xcdr2.verdict s set w v n y
    unfolding xcdr2.turn_at after_number
    turned2 w = rw (read4 s set pos origin head, ← is, told)

    pub judged2 : (w : ℕ) → turn_by s set set.version w (cursor_at pos origin) ≡ xcdr2.verdict s set w v n y
    judged2 w = by_turn2 s set set.version w (cursor_at pos origin) version ∙ turned2 w

    ahead2 : (m value next : ℕ) (r : Ahead) → r ≡ ahead_of value m next → m ≡ xcdr2.length_from set.mode (xcdr2.lc_of v) n → xcdr2.value_from set.mode (xcdr2.lc_of v) y ≡ cursor_at value origin → y.origin ≡ origin → PassedTo s y n next → value + m ≤ length s + 2 ^ 36
        → AheadIs s set (xcdr2.id_of v) (cursor_at pos origin) (Some r)
    unfolding xcdr2.verdict
    ahead2 m value next r e size back kept p near =
        made s set (xcdr2.id_of v) (cursor_at pos origin) y n kept (own2 set.version v version) (λ w l. judged2 w ∙ (rw (ne_eqb (xcdr2.id_of v) w (let f = asked2 set.version w version in omega arith)))) m value next r e
        (judged2 (xcdr2.id_of v) ∙ (rw (eq-eqb (xcdr2.id_of v) (xcdr2.id_of v) refl, ← size, back))) (λ first. only2 set.version m version first) p near

  -- a length code below 4 tells the length
  pub ahead_fixed : (lc n next i id b : ℕ) → lc ≡ xcdr2.lc_of v → lc < 4 → n ≡ xcdr2.fixed_length lc → n ≤ 8 → i ≡ xcdr2.id_of v → i ≡ id → PassedTo s (cursor_at (pos + 4) origin) n next → b ≡ xcdr2.step_back set.mode lc
      → (m : ℕ) → m ≡ xcdr2.length_from set.mode lc n → (r : Ahead) → r ≡ ahead_of (pos + 4 - b) m next → AheadIs s set id (cursor_at pos origin) (Some r)
  unfolding xcdr2.length_of xcdr2.length_by_lc
  ahead_fixed lc n next i id b c l e few named wanted p back m size r f =
      let near : pos + 4 - b + m ≤ length s + 2 ^ 36 = omega (arith, length_near set.mode lc n m size, head.inside) in
      rw (← wanted, named) (ahead2 n (cursor_at (pos + 4) origin) (rw (← c, lt-ltb _ _ l, ← e)) m (pos + 4 - b) next r f (rw (← c) size) (rw (← c, ← back)) refl p near)

-- a length code from 4 on has it in NEXTINT
module _ (s : List ℕ) (set : Settings) (v pos origin : ℕ) (long : LongHead s set v pos origin) (there : 8 ≤ length s - pos) (m u : ℕ) (is : m ≡ number_at set.order 0 s (pos + 4) 4) (lc : ℕ) (code : lc ≡ xcdr2.lc_of v) (unit : u ≡ xcdr2.unit_of lc) where
  pub told_long : xcdr2.length_of s set v (cursor_at (pos + 4) origin) ≡ Ok (m * u, cursor_at (pos + 4 + 4) origin)
  unfolding xcdr2.length_of xcdr2.length_by_lc xcdr2.nextint_times after_number
  told_long = rw (le-ltb _ _ long.code, read4 s set (pos + 4) origin (nextint_head s set pos origin long.head there), ← is, ← code, ← unit)

  pub ahead_long : (next b : ℕ) → m * u ≤ 2 ^ 35 → PassedTo s (cursor_at (pos + 4 + 4) origin) (m * u) next → b ≡ xcdr2.step_back set.mode lc
      → (k : ℕ) → k ≡ xcdr2.length_from set.mode lc (m * u) → (r : Ahead) → r ≡ ahead_of (pos + 4 + 4 - b) k next → AheadIs s set (xcdr2.id_of v) (cursor_at pos origin) (Some r)
  ahead_long next b few p back k size r f =
      let near : pos + 4 + 4 - b + k ≤ length s + 2 ^ 36 = omega (arith, length_near set.mode lc (m * u) k size, there) in
      ahead2 s set pos origin long.head long.version v long.is (m * u) _ told_long k (pos + 4 + 4 - b) next r f (rw (← code) size) (rw (← code, ← back)) refl p near

-- a value that is not empty is not the end
not_end : (id n : ℕ) → (n ≡ 0 → ⊥) → xcdr1.is_end id n ≡ false
not_end id n h = rw (ne_eqb n 0 h) (go (eqb id 0x3F02))
  where
    go : (t : Bool) → both t false ≡ false
    go true = refl
    go false = refl

-- an XCDR1 header: what is aligned to 4 is to 2
module _ (s : List ℕ) (set : Settings) (pos origin : ℕ) (head : HeadAt s pos origin) (version : set.version ≡ Xcdr1) where
  read2 : (p : ℕ) → (p - origin) % 2 ≡ 0 → p + 2 ≤ length s → read_number s set (cursor_at p origin) 2 ≡ Ok (number_at set.order 0 s p 2, cursor_at (p + 2) origin)
  read2 p e h = read_aligned s set (cursor_at p origin) 2 (padded set.version version) h
    where
      padded : (v : Version) → v ≡ Xcdr1 → padding_of (cursor_at p origin) (alignment_of v 2) ≡ 0
      padded v f = rw (← (alignment_own v 2 f), ← (padding_by (cursor_at p origin) 2 2 refl), e)

  header1 : xcdr1.header_at s set (cursor_at pos origin) ≡ Ok (number_at set.order 0 s pos 2 % 16384, number_at set.order 0 s (pos + 2) 2, cursor_at (pos + 4) origin)
  unfolding xcdr1.header_at after_number
  header1 =
      let a = head.after in
      let b = head.aligned in
      let i = head.inside in
      let e : pos + 2 + 2 ≡ pos + 4 = omega arith in
      rw (read2 pos (omega arith) (omega arith), read2 (pos + 2) (omega arith) (omega arith), e)

  module _ (v n : ℕ) (is : v ≡ number_at set.order 0 s pos 2) (told : n ≡ number_at set.order 0 s (pos + 2) 2) where
    turned1 : (w : ℕ) → xcdr1.turn_at s set w (cursor_at pos origin) ≡ xcdr1.verdict s set w (v % 16384) n (cursor_at (pos + 4) origin)
    unfolding xcdr1.turn_at xcdr1.on_header
    turned1 w = rw (header1, ← is, ← told)

    pub judged1 : (w : ℕ) → turn_by s set set.version w (cursor_at pos origin) ≡ xcdr1.verdict s set w (v % 16384) n (cursor_at (pos + 4) origin)
    judged1 w = by_turn1 s set set.version w (cursor_at pos origin) version ∙ turned1 w

    pub ahead1 : (i id next : ℕ) → i ≡ xcdr1.id_of v → i ≡ id → (n ≡ 0 → ⊥) → n < 256 ^ 2 → PassedTo s (cursor_at (pos + 4) origin) n next
        → (r : Ahead) → r ≡ ahead_of (pos + 4) n next → AheadIs s set id (cursor_at pos origin) (Some r)
    unfolding xcdr1.verdict
    ahead1 i id next named wanted some few p r f =
        let near : pos + 4 + n ≤ length s + 2 ^ 36 = omega (arith, head.inside) in
        let e : v % 16384 ≡ id = sym named ∙ wanted in
        let on : xcdr1.is_end (v % 16384) n ≡ false = not_end (v % 16384) n some in
        rw (← e)
        (made s set (v % 16384) (cursor_at pos origin) (cursor_at (pos + 4) origin) n refl (own1 set.version v version)
        (λ w l. judged1 w ∙ (rw (on, ne_eqb (v % 16384) (w % 65536) (let f = asked1 set.version w version in omega arith)))) n (pos + 4) next r f
        (judged1 (v % 16384) ∙ (rw (on, eq-eqb (v % 16384) (v % 16384 % 65536) (omega arith)))) (λ first. omega arith) p near)

-- the same under the wanted id's own name
pub ahead_same : (s : List ℕ) (set : Settings) (v i wanted : ℕ) (at : Cursor) (r : Option Ahead) → i ≡ xcdr2.id_of v → i ≡ wanted → AheadIs s set (xcdr2.id_of v) at r → AheadIs s set wanted at r
ahead_same s set v i wanted at r e f h = rw (← f, e) h

-- what the callers have of it: the lookup, and the place to ask for the next member
module _ (s : List ℕ) (set : Settings) where
  pub looked : (ver : Version) (id n v o : ℕ) (back : Cursor) → search_by s set ver id back ≡ Ok (Some (n, cursor_at v o)) → (ver ≡ Xcdr1 → 0 < n) → looked_up s set ver id back ≡ Ok (Some (n, value_at ver v o), back)
  unfolding search_by looked_up located_v1 located_v2 value_at
  looked Xcdr1 id n v o back e h = rw (e, lt-ltb _ _ (h refl))
  looked Xcdr2 id n v o back e h = rw e

  pub ahead_located : (id least : ℕ) (back at : Cursor) (a : Ahead) → align_to s set.version back 4 ≡ Ok back → Leads s set back at least → least ≤ id → AheadAt s set id at a
      → locate s set id back ≡ Ok (Some (a.length, value_at set.version a.value at.origin), back)
  unfolding locate after_move Leads
  ahead_located id least back at a e leads l is =
      let u = is.own.uncut in
      rw e (looked set.version id a.length a.value at.origin back (leads id (omega arith) ∙ is.found) is.some)

  pub ahead_next : (id least : ℕ) (back at : Cursor) (a : Ahead) → Leads s set back at least → least ≤ id + 1 → AheadAt s set id at a → a.next + 4 ≤ length s → Leads s set back (cursor_at a.next at.origin) (id + 1)
  unfolding NextIs
  ahead_next id least back at a leads l is known = lead_trans s set back at (cursor_at a.next at.origin) least (id + 1) leads (is.next.1 known) l

  pub ahead_place : (id : ℕ) (at : Cursor) (a : Ahead) → AheadAt s set id at a → HeadOrEnd s a.next at.origin
  unfolding NextIs
  ahead_place id at a is = is.next.0

  by_v1 : (ver : Version) (id : ℕ) (a b : Cursor) → ver ≡ Xcdr1 → search_by s set ver id a ≡ search_by s set ver id b → xcdr1.seek_to_pid s set id a ≡ xcdr1.seek_to_pid s set id b
  unfolding search_by
  by_v1 ver id a b v e = rw v at e

  pub lead_sentinel : (from to : Cursor) (least : ℕ) → set.version ≡ Xcdr1 → Leads s set from to least → least ≤ 0x3F02 → xcdr1.seek_to_sentinel s set from ≡ xcdr1.seek_to_sentinel s set to
  unfolding Leads xcdr1.seek_to_sentinel xcdr1.sentinel_place
  lead_sentinel from to least v leads l =
      let e = by_v1 set.version 0x3F02 from to v (leads 0x3F02 (let f = asked1 set.version 0x3F02 v in omega arith)) in
      rw e (go (xcdr1.seek_to_pid s set 0x3F02 to) refl)
    where
      go : (f : Seek) → xcdr1.seek_to_pid s set 0x3F02 to ≡ f → xcdr1.sentinel_place from f ≡ xcdr1.sentinel_place to f
      go (Ok (Some (n, d))) e = refl
      go (Err x) e = refl
      go (Ok None) e = absurd (turns1.sentinel_never_missing s set to e)
