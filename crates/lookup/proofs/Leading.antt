-- The straight lookup: what ends it without a value, and what a header that is passed leads to. Assumes nothing.
use Rattle.std.specs.declared.ops.ControlFlow.TheVariants.{Break, Continue}
use Rattle.std.specs.Prelude.{Err, None, Ok, Some, Option}
use Prim.Native.Nat.{ℕ, ◌+◌, ◌-◌, ◌*◌, ◌%◌, ◌<◌, ◌≤◌}
use mathlib.Core.Path.{◌≡◌, refl, sym, ap, ◌∙◌}
use mathlib.Core.Bool.{Bool, true, false, ◌&&◌}
use mathlib.Core.List.{List}
use native.Mathlib.Omega.{arith}
use lib.ListN.{length}
use lib.Dec.{eqb}
use borrow.Author.Tests.{eq-eqb, ne_eqb, lt-ltb, le-ltb}
use Rattle.ground.specs.Choice.{pick}
use Rattle.wire.specs.Place.{Place, cursor_at, align_to, after_move}
use Rattle.wire.specs.Number.{number_at, read_number, after_number}
use Rattle.wire.specs.declared.settings.Settings.{Settings}
use Rattle.wire.specs.declared.settings.Version.{Version}
use Rattle.wire.specs.declared.settings.Version.TheVariants.{Xcdr1, Xcdr2}
use Rattle.wire.specs.declared.cursor.Cursor.{Cursor}
use Rattle.wire.specs.declared.cursor.Shortage.{Shortage}
use Rattle.wire.specs.Number.{Number}
use Rattle.wire.proofs.Numbers.{read_inv}
use Rattle.lookup.specs.Search.{Seek, past_value, on_to}
use Rattle.lookup.specs.Xcdr1 as xcdr1
use Rattle.lookup.specs.Xcdr2 as xcdr2
use Rattle.lookup.specs.Member.{located_v1, located_v2, looked_up, locate}
use Rattle.lookup.specs.Code.Ahead.{search_by, AheadIs, AheadAt, value_at, HeadAt, HeadOrEnd, LongHead, PassedTo, PassedNear}
use Rattle.lookup.specs.Code.Straight.{located_by, Gone, LeadsTo, Past, Stepped, Steps, StepsFor, SoughtIs}
use Rattle.lookup.specs.Xcdr1.{Header}
use Rattle.lookup.specs.declared.straight.Sought.TheVariants as sought
use Rattle.lookup.specs.declared.ahead.Ahead.{Ahead}
use Rattle.lookup.proofs.Turns.{done, seek_done, seek_on}
use Rattle.lookup.proofs.Xcdr1Turns.{header_moves, is_end_law}
use Rattle.lookup.proofs.Aheads.{turn_by, by_turns, moves_by, by_turn1, by_turn2, read4, judged1, judged2, told_long, looked}
use Rattle.lookup.proofs.Hints.{already, head_there}

-- a search that ran short, or ended, or found an empty value of XCDR1 has nothing to read
module _ (back : Cursor) where
  gone_short : (ver : Version) (x : Shortage) → located_by ver (Err x) back ≡ Ok (None, back)
  unfolding located_by located_v1 located_v2
  gone_short Xcdr1 x = refl
  gone_short Xcdr2 x = refl

  gone_missing : (ver : Version) → located_by ver (Ok None) back ≡ Ok (None, back)
  unfolding located_by located_v1 located_v2
  gone_missing Xcdr1 = refl
  gone_missing Xcdr2 = refl

  gone_empty : (ver : Version) (c : Cursor) → ver ≡ Xcdr1 → located_by ver (Ok (Some (0, c))) back ≡ Ok (None, back)
  unfolding located_by located_v1
  gone_empty ver c e = rw e

module _ (s : List ℕ) (set : Settings) where
  -- the first turn settles it, or leads on
  gone_turn : (id : ℕ) (at : Cursor) (f : Seek) → turn_by s set set.version id at ≡ done f → ((back : Cursor) → located_by set.version f back ≡ Ok (None, back)) → Gone s set id at
  unfolding Gone
  gone_turn id at f e h back = rw (by_turns s set set.version id at ∙ seek_done s (turn_by s set set.version id) at f e) (h back)

  on_from : (id : ℕ) (at y : Cursor) → turn_by s set set.version id at ≡ Ok (Continue y) → search_by s set set.version id at ≡ search_by s set set.version id y
  on_from id at y e =
      by_turns s set set.version id at ∙ seek_on s (turn_by s set set.version id) (moves_by s set set.version id) at y e
      ∙ sym (by_turns s set set.version id y)

  gone_from : (id : ℕ) (at y : Cursor) → search_by s set set.version id at ≡ search_by s set set.version id y → Gone s set id y → Gone s set id at
  unfolding Gone
  gone_from id at y e h back = rw e (h back)

  -- so near the end of the data that no header is there, it runs short
  turn1_short : (id : ℕ) (c : Cursor) (x : Shortage) → xcdr1.header_at s set c ≡ Err x → xcdr1.turn_at s set id c ≡ Err x
  unfolding xcdr1.turn_at xcdr1.on_header
  turn1_short id c x e = rw e

  turn2_short : (id : ℕ) (c : Cursor) (x : Shortage) → read_number s set c 4 ≡ Err x → xcdr2.turn_at s set id c ≡ Err x
  unfolding xcdr2.turn_at after_number
  turn2_short id c x e = rw e

  near_end : (ver : Version) → set.version ≡ ver → (id : ℕ) (c : Cursor) → length s < c.pos + 4 → Gone s set id c
  near_end Xcdr1 v id c h = go (xcdr1.header_at s set c) refl
    where
      go : (r : Header) → xcdr1.header_at s set c ≡ r → Gone s set id c
      go (Err x) e = gone_turn id c (Err x) (by_turn1 s set set.version id c v ∙ turn1_short id c x e) (λ back. gone_short back set.version x)
      go (Ok (i, n, d)) e = absurd (let m = header_moves s set c i n d e in omega (arith, m.on, m.inside, h))
  near_end Xcdr2 v id c h = go (read_number s set c 4) refl
    where
      go : (r : Number) → read_number s set c 4 ≡ r → Gone s set id c
      go (Err x) e = gone_turn id c (Err x) (by_turn2 s set set.version id c v ∙ turn2_short id c x e) (λ back. gone_short back set.version x)
      go (Ok (n, d)) e = absurd (let m = read_inv s set c 4 n d e in omega (arith, m.on, m.inside, h))

  -- where the search stands
  pub leads_start : (id from origin : ℕ) → HeadOrEnd s from origin → LeadsTo s set id (cursor_at from origin) from
  leads_start id from origin h = record { place = h; same = λ k. refl; gone = λ k. near_end set.version refl id (cursor_at from origin) k }

  pub leads_end : (id : ℕ) (at : Cursor) → Gone s set id at → LeadsTo s set id at (length s)
  leads_end id at g = record { place = record { inside = omega arith; head = λ k. absurd (omega arith) }; same = λ k. absurd (omega arith); gone = λ k. g }

  pub leads_on : (id : ℕ) (at : Cursor) (q r : ℕ) → LeadsTo s set id at q → q + 4 ≤ length s → LeadsTo s set id (cursor_at q at.origin) r → LeadsTo s set id at r
  leads_on id at q r a h b =
      record { place = b.place; same = λ k. a.same h ∙ b.same k; gone = λ k. gone_from id at (cursor_at q at.origin) (a.same h) (b.gone k) }

  -- past a header whose value is passed over
  leads_past : (id : ℕ) (at y : Cursor) (n q : ℕ) → y.origin ≡ at.origin → turn_by s set set.version id at ≡ on_to (past_value s set y n) → PassedTo s y n q → PassedNear s y n q → LeadsTo s set id at q
  unfolding PassedTo PassedNear
  leads_past id at y n q kept turn p m =
      record {
        place = rw kept at p.0;
        same = λ k. on_from id at (cursor_at q at.origin) (turn ∙ ap on_to (p.1 k set) ∙ ap (λ (o : ℕ). Ok (Continue (cursor_at q o))) kept);
        gone = λ k. go k (past_value s set y n) refl;
      }
    where
      go : length s < q + 4 → (r : Place) → past_value s set y n ≡ r → Gone s set id at
      go k (Err x) e = gone_turn id at (Err x) (turn ∙ ap on_to e) (λ back. gone_short back set.version x)
      go k (Ok z) e = gone_from id at z (on_from id at z (turn ∙ ap on_to e)) (near_end set.version refl id z (m.0 k set z e))

-- past an XCDR2 header
module _ (s : List ℕ) (set : Settings) (pos origin : ℕ) (head : HeadAt s pos origin) (version : set.version ≡ Xcdr2) (v : ℕ) (is : v ≡ number_at set.order 0 s pos 4) where
  past2 : (n : ℕ) (y : Cursor) → xcdr2.length_of s set v (cursor_at (pos + 4) origin) ≡ Ok (n, y) → y.origin ≡ origin → pos + 4 ≤ y.pos → y.pos ≤ length s → (q : ℕ) → PassedTo s y n q → PassedNear s y n q → Past s set (xcdr2.id_of v) pos origin q
  unfolding Past PassedNear xcdr2.verdict
  past2 n y told kept after inside q p m = (
    (let k = m.1 inside in omega (arith, k, after)),
    λ id other. leads_past s set id (cursor_at pos origin) y n q kept (judged2 s set pos origin head version v is n y told id ∙ (rw (ne_eqb (xcdr2.id_of v) id other))) p m,
  )

  pub past_fixed : (lc n q : ℕ) → lc ≡ xcdr2.lc_of v → lc < 4 → n ≡ xcdr2.fixed_length lc → PassedTo s (cursor_at (pos + 4) origin) n q → PassedNear s (cursor_at (pos + 4) origin) n q → Past s set (xcdr2.id_of v) pos origin q
  unfolding xcdr2.length_of xcdr2.length_by_lc
  past_fixed lc n q c l e p near = past2 n (cursor_at (pos + 4) origin) (rw (← c, lt-ltb _ _ l, ← e)) refl (omega arith) head.inside q p near

module _ (s : List ℕ) (set : Settings) (v pos origin : ℕ) (long : LongHead s set v pos origin) where
  pub past_long : 8 ≤ length s - pos → (m u lc q : ℕ) → m ≡ number_at set.order 0 s (pos + 4) 4 → lc ≡ xcdr2.lc_of v → u ≡ xcdr2.unit_of lc → PassedTo s (cursor_at (pos + 4 + 4) origin) (m * u) q → PassedNear s (cursor_at (pos + 4 + 4) origin) (m * u) q → Past s set (xcdr2.id_of v) pos origin q
  past_long there m u lc q e code unit p near =
      past2 s set pos origin long.head long.version v long.is (m * u) (cursor_at (pos + 4 + 4) origin) (told_long s set v pos origin long there m u e lc code unit) refl (omega arith) (omega (arith, there)) q p near

  no_nextint : (id : ℕ) (x : Shortage) → read_number s set (cursor_at (pos + 4) origin) 4 ≡ Err x → xcdr2.turn_at s set id (cursor_at pos origin) ≡ Err x
  unfolding xcdr2.turn_at xcdr2.length_of xcdr2.length_by_lc xcdr2.nextint_times after_number
  no_nextint id x e = rw (read4 s set pos origin long.head, ← long.is, le-ltb _ _ long.code, e)

  pub past_cut : length s - pos < 8 → Past s set (xcdr2.id_of v) pos origin (length s)
  unfolding Past
  past_cut h = (let i = long.head.inside in omega (arith, i), λ id other. leads_end s set id (cursor_at pos origin) (go id (read_number s set (cursor_at (pos + 4) origin) 4) refl))
    where
      go : (id : ℕ) (r : Number) → read_number s set (cursor_at (pos + 4) origin) 4 ≡ r → Gone s set id (cursor_at pos origin)
      go id (Err x) e = gone_turn s set id (cursor_at pos origin) (Err x) (by_turn2 s set set.version id (cursor_at pos origin) long.version ∙ no_nextint id x e) (λ back. gone_short back set.version x)
      go id (Ok (n, d)) e = absurd (let m = read_inv s set (cursor_at (pos + 4) origin) 4 n d e in let i = long.head.inside in omega (arith, m.on, m.inside, h, i))

-- the wanted one's header, and one of another id
pub stays : (s : List ℕ) (set : Settings) (id pos origin : ℕ) → HeadAt s pos origin → Stepped s set id pos origin pos
unfolding Stepped
stays s set id pos origin head = (omega arith, leads_start s set id pos origin (record { inside = (let i = head.inside in omega arith); head = λ k. head }))

pub passes2 : (s : List ℕ) (set : Settings) (own i id pos origin q : ℕ) → i ≡ own → (i ≡ id → ⊥) → Past s set own pos origin q → Stepped s set id pos origin q
unfolding Past Stepped
passes2 s set own i id pos origin q e other p = (let l = p.0 in omega arith, p.1 id (λ f. other (e ∙ f)))

-- an XCDR1 header: what it leads to
module _ (s : List ℕ) (set : Settings) (id pos origin : ℕ) (head : HeadAt s pos origin) (version : set.version ≡ Xcdr1) where
  module _ (v i : ℕ) (named : i ≡ xcdr1.id_of v) (is : v ≡ number_at set.order 0 s pos 2) (n : ℕ) (told : n ≡ number_at set.order 0 s (pos + 2) 2) where
    to_end : Gone s set id (cursor_at pos origin) → Stepped s set id pos origin (length s)
    unfolding Stepped
    to_end g = (let i = head.inside in omega arith, leads_end s set id (cursor_at pos origin) g)

    judged : turn_by s set set.version id (cursor_at pos origin) ≡ xcdr1.verdict s set id i n (cursor_at (pos + 4) origin)
    judged = rw named (judged1 s set pos origin head version v n is told id)

    ended1 : (t : Bool) → (eqb i 0x3F02 && eqb n 0) ≡ true → eqb id 0x3F02 ≡ t → turn_by s set set.version id (cursor_at pos origin) ≡ Ok (Break (pick t (Some (0, cursor_at (pos + 4) origin)) None))
    unfolding xcdr1.verdict
    ended1 t e f = judged ∙ (rw (is_end_law i n true e, f))

    matched1 : (eqb i 0x3F02 && eqb n 0) ≡ false → i ≡ id % 65536 → turn_by s set set.version id (cursor_at pos origin) ≡ Ok (Break (Some (n, cursor_at (pos + 4) origin)))
    unfolding xcdr1.verdict
    matched1 e f = judged ∙ (rw (is_end_law i n false e, eq-eqb i (id % 65536) f))

    missed1 : (eqb i 0x3F02 && eqb n 0) ≡ false → (i ≡ id % 65536 → ⊥) → turn_by s set set.version id (cursor_at pos origin) ≡ on_to (past_value s set (cursor_at (pos + 4) origin) n)
    unfolding xcdr1.verdict
    missed1 e f = judged ∙ (rw (is_end_law i n false e, ne_eqb i (id % 65536) f))

    -- the end marker
    pub end1 : (eqb i 0x3F02 && eqb n 0) ≡ true → Stepped s set id pos origin (length s)
    end1 e = to_end (go (eqb id 0x3F02) refl)
      where
        go : (t : Bool) → eqb id 0x3F02 ≡ t → Gone s set id (cursor_at pos origin)
        go true f = gone_turn s set id (cursor_at pos origin) (Ok (Some (0, cursor_at (pos + 4) origin))) (ended1 true e f) (λ back. gone_empty back set.version (cursor_at (pos + 4) origin) version)
        go false f = gone_turn s set id (cursor_at pos origin) (Ok None) (ended1 false e f) (λ back. gone_missing back set.version)

    -- an empty value
    pub empty1 : i ≡ id % 65536 → n ≡ 0 → Stepped s set id pos origin (length s)
    empty1 e z = go (eqb i 0x3F02 && eqb n 0) refl
      where
        go : (t : Bool) → (eqb i 0x3F02 && eqb n 0) ≡ t → Stepped s set id pos origin (length s)
        go true f = end1 f
        go false f =
            to_end
            (gone_turn s set id (cursor_at pos origin) (Ok (Some (0, cursor_at (pos + 4) origin))) (matched1 f e ∙ ap (λ (m : ℕ). (Ok (Break (Some (m, cursor_at (pos + 4) origin))))) z)
            (λ back. gone_empty back set.version (cursor_at (pos + 4) origin) version))

    pub past1 : (q : ℕ) → (i ≡ id % 65536 → ⊥) → (eqb i 0x3F02 && eqb n 0) ≡ false → PassedTo s (cursor_at (pos + 4) origin) n q → PassedNear s (cursor_at (pos + 4) origin) n q → Stepped s set id pos origin q
    unfolding Stepped PassedNear
    past1 q other e p m =
        (let k = m.1 head.inside in omega (arith, k), leads_past s set id (cursor_at pos origin) (cursor_at (pos + 4) origin) n q refl (missed1 e other) p m)

-- what the loop asks of a step, and where it goes
module _ (s : List ℕ) (set : Settings) (id pos origin q : ℕ) where
  pub step_on : Stepped s set id pos origin q → (pos ≤ q) × HeadOrEnd s q origin
  unfolding Stepped
  step_on step = (step.0, step.1.place)

  pub step_leads : Stepped s set id pos origin q → (from : ℕ) → LeadsTo s set id (cursor_at from origin) pos → 4 ≤ length s - pos → LeadsTo s set id (cursor_at from origin) q
  unfolding Stepped
  step_leads step from a left = let k = a.place.inside in leads_on s set id (cursor_at from origin) pos q a (omega (arith, left, k)) step.1

-- the loop over a step
module _ (s : List ℕ) (origin : ℕ) (may : ℕ → Type 0) (told : ℕ → ℕ → Type 0) (steps : Steps s origin may told) (pos : ℕ) (stands : HeadOrEnd s pos origin) (left : 4 ≤ length s - pos) where
  module _ (q : ℕ) (post : told pos q) where
    pub stays_on : (pos ≤ q) × HeadOrEnd s q origin
    stays_on = (steps pos (head_there s pos origin stands left)).1 q post

    pub stays_leads : (set : Settings) (id from : ℕ) → StepsFor s set id origin told → LeadsTo s set id (cursor_at from origin) pos → LeadsTo s set id (cursor_at from origin) q
    stays_leads set id from same a = step_leads s set id pos origin q (same pos q (head_there s pos origin stands left) post) from a left

-- two constructors are never equal
absent_found : (v n : ℕ) → sought.Absent ≡ sought.Found v n → ⊥
absent_found v n e = let z : ◌≡◌ {A = ℕ} 0 1 = cc in omega arith

found_inv : {v n w m : ℕ} → sought.Found v n ≡ sought.Found w m → (v ≡ w) × (n ≡ m)
found_inv {v} {n} {w} {m} e = let p : v ≡ w = cc in let q : n ≡ m = cc in (p, q)

-- what is told of the lookup
module _ (s : List ℕ) (set : Settings) (id : ℕ) (c : Cursor) where
  by_search : (ver : Version) (f : Seek) → search_by s set ver id c ≡ f → looked_up s set ver id c ≡ located_by ver f c
  unfolding search_by looked_up located_by
  by_search Xcdr1 f e = rw e
  by_search Xcdr2 f e = rw e

  located_from : align_to s set.version c 4 ≡ Ok c → locate s set id c ≡ looked_up s set set.version id c
  unfolding locate after_move
  located_from e = rw e

  pub sought_absent : (q : ℕ) → c.pos ≤ length s → (c.pos - c.origin) % 4 ≡ 0 → LeadsTo s set id (cursor_at c.pos c.origin) q → length s - q < 4 → SoughtIs s set id c sought.Absent
  unfolding Gone
  sought_absent q inside aligned p h =
      let k = p.place.inside in
      record {
        found = λ v n e. absurd (absent_found v n e);
        near = λ v n e. absurd (absent_found v n e);
        absent = λ e. located_from (already s set true c inside aligned) ∙ by_search set.version _ refl ∙ p.gone (omega (arith, h, k)) c;
      }

  pub sought_found : (q : ℕ) (r : Option Ahead) (a : Ahead) → c.pos ≤ length s → (c.pos - c.origin) % 4 ≡ 0 → LeadsTo s set id (cursor_at c.pos c.origin) q → 4 ≤ length s - q → AheadIs s set id (cursor_at q c.origin) r → r ≡ Some a → SoughtIs s set id c (sought.Found a.value a.length)
  unfolding AheadIs
  sought_found q r a inside aligned p h is e =
      record {
        found = λ v n f. let g = found_inv f in rw (← g.0, ← g.1) located;
        near = λ v n f. let g = found_inv f in rw (← g.0, ← g.1) told.near;
        absent = λ f. absurd (absent_found a.value a.length (sym f));
      }
    where
      told : AheadAt s set id (cursor_at q c.origin) a
      told = rw e at is

      located : locate s set id c ≡ Ok (Some (a.length, value_at set.version a.value c.origin), c)
      located =
          let k = p.place.inside in
          located_from (already s set true c inside aligned) ∙ looked s set set.version id a.length a.value c.origin c (p.same (omega (arith, h, k)) ∙ told.found) told.some
