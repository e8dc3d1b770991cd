-- Where a search for a header stands, and what its shortages tell: what it finds stands inside the data that it searches. Assumes nothing.
use Rattle.std.specs.declared.ops.ControlFlow.TheVariants.{Break, Continue}
use Rattle.std.specs.Prelude.{Err, None, Ok, Option, Some}
use Prim.Native.Nat.{ℕ, zero, suc, ◌+◌, ◌-◌, ◌*◌, ◌≤◌}
use mathlib.Core.Path.{◌≡◌, ap}
use mathlib.Core.List.{List, [], ◌∷◌}
use native.Mathlib.Omega.{arith}
use native.Mathlib.Nat.{mul-le-mul_left}
use lib.Dec.{eqb, ltb}
use lib.ListN.{length, get_or}
use Rattle.ground.specs.Choice.{◌‥◌, within}
use Rattle.wire.specs.declared.cursor.Cursor.{Cursor}
use Rattle.wire.specs.declared.cursor.Shortage.{Shortage}
use Rattle.wire.specs.Place.{Place}
use Rattle.wire.specs.declared.settings.Mode.{Mode}
use Rattle.wire.specs.declared.settings.Mode.TheVariants.{Crate, Standard}
use Rattle.wire.specs.declared.settings.Settings.{Settings}
use Rattle.wire.specs.declared.settings.Version.{Version}
use Rattle.wire.specs.declared.settings.Version.TheVariants.{Xcdr1, Xcdr2}
use Rattle.lookup.specs.Search.{Seek, Turn, past_value, on_to, on_turn, headers_in}
use Rattle.lookup.specs.Xcdr1 as xcdr1
use Rattle.lookup.specs.Xcdr2 as xcdr2
use Rattle.lookup.specs.Member.{Located, located_v1, located_v2, looked_up, locate}
use Rattle.fit.proofs.Claims.{Claim}
use Rattle.fit.proofs.Ends.{by_test}
use Rattle.fit.proofs.Standing.{PlaceIn, place_in, no_place, NumberIn, number_in, no_number, after_move_law, after_number_law, seek_in, align_in, read_in, wanted_by}

-- what was found has a length that a read may want
pub data SeekIn {set : Settings} (K : Claim set) (s : List ℕ) : Seek → Type 0 where
  found_in_law : {n : ℕ} {c : Cursor} → c.pos ≤ length s → K.Wanted n → SeekIn K s (Ok (Some (n, c)))
  not_found : SeekIn K s (Ok None)
  no_seek : {x : Shortage} → K.Lacks s x → SeekIn K s (Err x)

data TurnIn {set : Settings} (K : Claim set) (s : List ℕ) : Turn → Type 0 where
  done_in : {found : Option (ℕ × Cursor)} → SeekIn K s (Ok found) → TurnIn K s (Ok (Break found))
  on_in : {c : Cursor} → c.pos ≤ length s → TurnIn K s (Ok (Continue c))
  no_turn : {x : Shortage} → K.Lacks s x → TurnIn K s (Err x)

-- what was looked up, where its value begins, and where the reading comes back to
pub data LocatedIn {set : Settings} (K : Claim set) (s : List ℕ) : Located → Type 0 where
  located_in : {n : ℕ} {c back : Cursor} → c.pos ≤ length s → back.pos ≤ length s → K.Wanted n → LocatedIn K s (Ok (Some (n, c), back))
  absent_in : {back : Cursor} → back.pos ≤ length s → LocatedIn K s (Ok (None, back))
  no_lookup : {x : Shortage} → K.Lacks s x → LocatedIn K s (Err x)

-- what was found is the same only where its length and its place are, and is not absent
found_inv : {m n : ℕ} {d c b back : Cursor} → ◌≡◌ {A = Located} (Ok (Some (m, d), b)) (Ok (Some (n, c), back)) → (m ≡ n) × (d ≡ c)
found_inv {m} {n} {d} {c} {b} {back} e =
    let p : ◌≡◌ {A = Option (ℕ × Cursor) × Cursor} (Some (m, d), b) (Some (n, c), back) = cc in
    let o : ◌≡◌ {A = Option (ℕ × Cursor)} (Some (m, d)) (Some (n, c)) = ap (λ (x : Option (ℕ × Cursor) × Cursor). x.0) p in
    let q : ◌≡◌ {A = ℕ × Cursor} (m, d) (n, c) = cc in
    (ap (λ (x : ℕ × Cursor). x.0) q, ap (λ (x : ℕ × Cursor). x.1) q)

absent_found : (n : ℕ) (c b back : Cursor) → ◌≡◌ {A = Located} (Ok (None, b)) (Ok (Some (n, c), back)) → ⊥
absent_found n c b back e =
    let p : ◌≡◌ {A = Option (ℕ × Cursor) × Cursor} (None, b) (Some (n, c), back) = cc in
    let o : ◌≡◌ {A = Option (ℕ × Cursor)} None (Some (n, c)) = ap (λ (x : Option (ℕ × Cursor) × Cursor). x.0) p in
    cc

-- what was found begins there
pub found_begins : {set : Settings} (K : Claim set) {s : List ℕ} {l : Located} (n : ℕ) (c back : Cursor) → LocatedIn K s l → l ≡ Ok (Some (n, c), back) → c.pos ≤ length s
found_begins K n c back (located_in l h w) e = rw ((found_inv e).1) at l
found_begins K n c back (absent_in {back = b} h) e = absurd (absent_found n c b back e)
found_begins K n c back (no_lookup h) e = absurd (let z : ◌≡◌ {A = ℕ} 0 1 = cc in omega arith)

-- with such a length
pub found_wanted : {set : Settings} (K : Claim set) {s : List ℕ} {l : Located} (n : ℕ) (c back : Cursor) → LocatedIn K s l → l ≡ Ok (Some (n, c), back) → K.Wanted n
found_wanted K n c back (located_in l h w) e = rw ((found_inv e).0) at w
found_wanted K n c back (absent_in {back = b} h) e = absurd (absent_found n c b back e)
found_wanted K n c back (no_lookup h) e = absurd (let z : ◌≡◌ {A = ℕ} 0 1 = cc in omega arith)

-- no length code's own length, unit or step back is greater
fixed_few : (lc : ℕ) → xcdr2.fixed_length lc ≤ 8
fixed_few zero = omega arith
fixed_few (suc zero) = omega arith
fixed_few (suc (suc zero)) = omega arith
fixed_few (suc (suc (suc zero))) = omega arith
fixed_few (suc (suc (suc (suc lc)))) = omega arith

unit_few : (k : ℕ) → get_or (1 ∷ 1 ∷ 4 ∷ 8 ∷ []) k 0 ≤ 8
unit_few zero = omega arith
unit_few (suc zero) = omega arith
unit_few (suc (suc zero)) = omega arith
unit_few (suc (suc (suc zero))) = omega arith
unit_few (suc (suc (suc (suc k)))) = omega arith

length_few : (mode : Mode) (lc n : ℕ) → xcdr2.length_from mode lc n ≤ n + 4
unfolding xcdr2.length_from xcdr2.step_back
length_few Crate lc n = omega arith
length_few Standard lc n = by_test (λ k. n + k ≤ n + 4) (within (5 ‥ 7) lc) (λ e. omega arith) (λ e. omega arith)

module _ {set : Settings} (K : Claim set) (s : List ℕ) (g : K.Given s) where
  on_turn_law : {t : Turn} (next : Cursor → Seek) → TurnIn K s t → ((c : Cursor) → K.At s c.pos → SeekIn K s (next c)) → SeekIn K s (on_turn t next)
  unfolding on_turn
  on_turn_law next (done_in f) h = f
  on_turn_law next (on_in {c} l) h = h c (K.inside s c.pos g l)
  on_turn_law next (no_turn l) h = no_seek l

  headers_in_law : (n : ℕ) (turn : Cursor → Turn) → ((c : Cursor) → K.At s c.pos → TurnIn K s (turn c)) → (c : Cursor) → K.At s c.pos → SeekIn K s (headers_in n turn c)
  unfolding headers_in
  headers_in_law zero turn h c l = not_found
  headers_in_law (suc n) turn h c l = on_turn_law _ (h c l) (λ d k. headers_in_law n turn h d k)

  abbrev failing : (x : Shortage) → K.Lacks s x → TurnIn K s (Err x)
  failing x l = no_turn l

  past_value_law : (c : Cursor) (n : ℕ) → c.pos ≤ length s → K.Wanted n → PlaceIn K s (past_value s set c n)
  unfolding past_value
  past_value_law c n l w =
      after_move_law K s (PlaceIn K s) Err (λ x k. no_place k) (seek_in K s g c n (K.inside s c.pos g l) w) _ (λ d k. align_in K s g d 4 (omega arith) (K.inside s d.pos g k))

  on_to_law : {p : Place} → PlaceIn K s p → TurnIn K s (on_to p)
  on_to_law (place_in l) = on_in l
  on_to_law (no_place l) = no_turn l

  -- ---- XCDR1

  verdict_1 : (wanted id n : ℕ) (c : Cursor) → c.pos ≤ length s → K.Wanted n → TurnIn K s (xcdr1.verdict s set wanted id n c)
  unfolding xcdr1.verdict
  verdict_1 wanted id n c l w =
      let F : Turn → Type 0 = TurnIn K s in
      by_test F (xcdr1.is_end id n) (λ e. done_in (by_test (λ found. SeekIn K s (Ok found)) (eqb wanted 0x3F02) (λ f. found_in_law l (K.few 0 (omega arith))) (λ f. not_found))) (λ e.
      by_test F (xcdr1.is_match wanted id) (λ f. done_in (found_in_law l w)) (λ f. on_to_law (past_value_law c n l w)))

  turn_1 : (wanted : ℕ) (c : Cursor) → K.At s c.pos → TurnIn K s (xcdr1.turn_at s set wanted c)
  unfolding xcdr1.turn_at xcdr1.header_at xcdr1.on_header
  turn_1 wanted c l =
      after_number_law K s (λ h. TurnIn K s (xcdr1.on_header s set wanted h)) Err failing (read_in K s g c 2 (omega arith) l) _ (λ word d k w.
      after_number_law K s (λ h. TurnIn K s (xcdr1.on_header s set wanted h)) Err failing (read_in K s g d 2 (omega arith) (K.inside s d.pos g k)) _ (λ n e h v.
      verdict_1 wanted (xcdr1.id_of word) n e h (wanted_by K s g n n (omega arith) (v (omega arith)))))

  pub seek_1 : (wanted : ℕ) (c : Cursor) → K.At s c.pos → SeekIn K s (xcdr1.seek_to_pid s set wanted c)
  unfolding xcdr1.seek_to_pid
  seek_1 wanted c l = headers_in_law (suc (length s)) (xcdr1.turn_at s set wanted) (turn_1 wanted) c l

  -- ---- XCDR2

  -- with four bytes more it is a length that a read may want
  length_in : (emheader : ℕ) (c : Cursor) → c.pos ≤ length s → NumberIn K s (λ n. K.Wanted (n + 4)) (xcdr2.length_of s set emheader c)
  unfolding xcdr2.length_of xcdr2.length_by_lc xcdr2.nextint_times
  length_in emheader c l =
      let F = NumberIn K s (λ n. K.Wanted (n + 4)) in
      let lc = xcdr2.lc_of emheader in
      by_test F (ltb (xcdr2.lc_of emheader) 4) (λ e. number_in l (K.few (xcdr2.fixed_length lc + 4) (omega (arith, fixed_few lc)))) (λ e.
      after_number_law K s F Err (λ x k. no_number k) (read_in K s g c 4 (omega arith) (K.inside s c.pos g l)) _ (λ n d k w.
      let u : n * xcdr2.unit_of lc ≤ n * 8 = mul-le-mul_left n (unit_few (lc - 4)) in
      number_in k (K.fewer (n * xcdr2.unit_of lc + 4) (n * 8 + 4) (omega arith) (K.eight n (w (omega arith))))))

  -- a step back leads to no later place
  verdict_2 : (wanted emheader n : ℕ) (c : Cursor) → c.pos ≤ length s → K.Wanted (n + 4) → TurnIn K s (xcdr2.verdict s set wanted emheader n c)
  unfolding xcdr2.verdict
  verdict_2 wanted emheader n c l w =
      by_test (TurnIn K s) (eqb (xcdr2.id_of emheader) wanted) (λ e. done_in (found_in_law (omega arith) (K.fewer _ (n + 4) (length_few set.mode (xcdr2.lc_of emheader) n) w))) (λ e.
      on_to_law (past_value_law c n l (K.fewer n (n + 4) (omega arith) w)))

  turn_2 : (wanted : ℕ) (c : Cursor) → K.At s c.pos → TurnIn K s (xcdr2.turn_at s set wanted c)
  unfolding xcdr2.turn_at
  turn_2 wanted c l =
      let F : Turn → Type 0 = TurnIn K s in
      after_number_law K s F Err failing (read_in K s g c 4 (omega arith) l) _ (λ emheader d k v.
      after_number_law K s F Err failing (length_in emheader d k) _ (λ n e h w. verdict_2 wanted emheader n e h w))

  seek_2 : (wanted : ℕ) (c : Cursor) → K.At s c.pos → SeekIn K s (xcdr2.seek_to_pid s set wanted c)
  unfolding xcdr2.seek_to_pid
  seek_2 wanted c l = headers_in_law (suc (length s)) (xcdr2.turn_at s set wanted) (turn_2 wanted) c l

  -- ---- the lookup

  located_1 : {found : Seek} (back : Cursor) → back.pos ≤ length s → SeekIn K s found → LocatedIn K s (located_v1 found back)
  unfolding located_v1
  located_1 back l (found_in_law {n} k w) = by_test (LocatedIn K s) (ltb 0 n) (λ e. located_in k l w) (λ e. absent_in l)
  located_1 back l not_found = absent_in l
  located_1 back l (no_seek k) = absent_in l

  located_2 : {found : Seek} (back : Cursor) → back.pos ≤ length s → SeekIn K s found → LocatedIn K s (located_v2 found back)
  unfolding located_v2
  located_2 back l (found_in_law k w) = located_in k l w
  located_2 back l not_found = absent_in l
  located_2 back l (no_seek k) = absent_in l

  looked_up_law : (v : Version) (id : ℕ) (back : Cursor) → back.pos ≤ length s → LocatedIn K s (looked_up s set v id back)
  unfolding looked_up
  looked_up_law Xcdr1 id back l = located_1 back l (seek_1 id back (K.inside s back.pos g l))
  looked_up_law Xcdr2 id back l = located_2 back l (seek_2 id back (K.inside s back.pos g l))

  pub locate_in : (id : ℕ) (c : Cursor) → K.At s c.pos → LocatedIn K s (locate s set id c)
  unfolding locate
  locate_in id c l =
      after_move_law K s (LocatedIn K s) Err (λ x k. no_lookup k) (align_in K s g c 4 (omega arith) l) _ (λ back k. looked_up_law set.version id back k)

-- ---- nothing is claimed: what is found begins inside the data, wherever the lookup began

abbrev no_claim : (set : Settings) → Claim set
no_claim set =
    record {
      Given = λ s. Unit {0};
      At = λ s p. Unit {0};
      Wanted = λ n. Unit {0};
      Word = λ n. Unit {0};
      Lacks = λ s x. Unit {0};
      cuts = λ s end g. g;
      outer = λ s end p l. l;
      outer_lacks = λ s end x l. l;
      inside = λ s p g l. g;
      past = λ s p n g v e l w. g;
      few = λ n h. tt;
      fewer = λ m n h w. w;
      word = λ s o p w g h. g;
      eight = λ n w. w;
      lacks = λ s c n g l w h. l;
      stands = λ s x l. l;
      back = λ s x c l h. l;
    }

pub found_inside : (s : List ℕ) (set : Settings) (id : ℕ) (c : Cursor) (n : ℕ) (d back : Cursor) → locate s set id c ≡ Ok (Some (n, d), back) → d.pos ≤ length s
found_inside s set id c n d back e = found_begins (no_claim set) n d back (locate_in (no_claim set) s tt id c tt) e
