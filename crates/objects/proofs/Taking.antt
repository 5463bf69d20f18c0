-- What applying an undamaged object needs and gives. Assumes nothing.
use Rattle.std.proofs.Common.{◌≡◌, ℕ, ◌+◌, ◌-◌, ◌*◌, ◌^◌, ◌<◌, ◌≤◌, true, ◌&&◌, eqb, ltb, leb, List, [], ◌∷◌, length, drop, sym, refl, ap, ◌∙◌, subst, arith}
use Rattle.std.proofs.lemmas.Bool.{and_parts, and_from, leb-true, eqb-true, le-leb, lt-ltb}
use Rattle.extents.specs.declared.extent.Extent.{Extent}
use Rattle.extents.specs.declared.target.Place.{Place}
use Rattle.extents.specs.Mapped.{Mapped}
use Rattle.extents.specs.Map.{end, target_at, is_table, all_in_range}
use Rattle.extents.specs.Kinds.{place_advanced, place_same, place_fits}
use Rattle.objects.specs.declared.header.Header.{Header}
use Rattle.objects.specs.declared.entry.Entry.{Entry}
use Rattle.objects.specs.declared.entry.Carrier.{Carrier}
use Rattle.objects.specs.declared.entry.Carrier.TheVariants.{Data, Clean}
use Rattle.objects.specs.Layout.{carrier_kind, total}
use Rattle.objects.specs.Rules.{every, disk_size, entry_fits, extent_fits, most_blocks}
use Rattle.objects.specs.Seen.{field, header_at, entry_at, extent_at, listed, carrier_at, checkpoint_at, carrier_sound, no_extent, checkpoint_sound, kind_sound, framed, sound, entries_said, extents_said}
use Rattle.objects.specs.Applying.{laid, places, recorded, counted, Takes, Overflows}
use Rattle.objects.proofs.Widths.{Bytes}
use Rattle.objects.proofs.Lists.{length_listed}
use Rattle.std.specs.Simd.{first_chunks}
use Rattle.objects.proofs.Parts.{entries_are, extents_are, length_chunks}
use Rattle.objects.proofs.Tables.{table_from_chain}
use Rattle.objects.proofs.Sound.{Headed, carrier_good, checkpoint_good}

wider : (most blocks : ℕ) (es : List Entry) → most ≤ 32 → every (entry_fits most blocks) es ≡ true → every (entry_fits 32 blocks) es ≡ true
wider most blocks [] low h = refl
wider most blocks (e ∷ es) low h =
    let p = and_parts (entry_fits most blocks e) _ h in
    let q = and_parts (leb 1 e.count) _ p.0 in
    let r = and_parts (leb e.count most) _ q.1 in
    let few = leb-true e.count most r.0 in
    and_from _ _ (and_from _ _ q.0 (and_from _ _ (le-leb e.count 32 (omega arith)) r.1)) (wider most blocks es low p.1)

most_low : (c : Carrier) → most_blocks c ≤ 32
most_low Data = omega arith
most_low Clean = omega arith

-- what the entries of a sound object keep
pub record Laying (c : Carrier) (blocks : ℕ) (bytes : List ℕ) : Type 0 where
  pub few : field 4 16 bytes ≤ 32
  pub room : 24 + 8 * field 4 16 bytes ≤ length bytes
  pub fit : every (entry_fits 32 blocks) (listed (entry_at bytes) 8 (field 4 16 bytes) 24) ≡ true
  pub most : total (listed (entry_at bytes) 8 (field 4 16 bytes) 24) ≤ 32
  pub sum : total (listed (entry_at bytes) 8 (field 4 16 bytes) 24) ≡ field 4 20 bytes

pub laying : (c : Carrier) (blocks : ℕ) (bytes : List ℕ) → carrier_sound c blocks bytes ≡ true → Laying c blocks bytes
laying c blocks bytes s =
    let n = field 4 16 bytes in
    let t = field 4 20 bytes in
    let es = listed (entry_at bytes) 8 n 24 in
    let p0 = and_parts (leb 1 n && (leb n 32 && (leb t 32 && eqb (length bytes) (24 + 8 * n + 512 * t)))) _ s in
    let p1 = and_parts (leb 1 n) _ p0.0 in
    let p2 = and_parts (leb n 32) _ p1.1 in
    let p3 = and_parts (leb t 32) _ p2.1 in
    let p4 = and_parts (every (entry_fits (most_blocks c) blocks) es) _ p0.1 in
    let few = leb-true n 32 p2.0 in
    let most = leb-true t 32 p3.0 in
    let long = eqb-true (length bytes) (24 + 8 * n + 512 * t) p3.1 in
    let sum : total es ≡ t = eqb-true (total es) t p4.1 in
    record { few = few; room = omega arith; fit = wider (most_blocks c) blocks es (most_low c) p4.0; most = omega arith; sum = sum }

ranged : (number blocks : ℕ) (xs : List (Extent Place)) → every (extent_fits number blocks) xs ≡ true → all_in_range place_advanced place_fits blocks xs ≡ true
ranged number blocks [] h = refl
ranged number blocks (x ∷ xs) h =
    let p = and_parts (extent_fits number blocks x) _ h in
    let q = and_parts (leb (end x) blocks) _ p.0 in
    let r = and_parts (leb 1 x.target.object) _ q.1 in
    let s = and_parts (ltb x.target.object number) _ r.1 in
    let last = leb-true (x.target.offset + 512 * x.length) 65536 s.1 in
    and_from _ _ (and_from _ _ q.0 (lt-ltb (x.target.offset + 512 * (x.length - 1)) (2 ^ 32) (omega arith))) (ranged number blocks xs p.1)

-- what the table of a sound checkpoint keeps
pub record Setting (blocks : ℕ) (bytes : List ℕ) : Type 0 where
  pub few : field 4 16 bytes ≤ 1024
  pub room : 24 + 16 * field 4 16 bytes ≤ length bytes
  pub tabled : is_table place_advanced place_same (listed (extent_at bytes) 16 (field 4 16 bytes) 24) ≡ true
  pub range : all_in_range place_advanced place_fits blocks (listed (extent_at bytes) 16 (field 4 16 bytes) 24) ≡ true

pub setting : (name blocks : ℕ) (bytes : List ℕ) → checkpoint_sound name blocks bytes ≡ true → Setting blocks bytes
setting name blocks bytes s =
    let n = field 4 16 bytes in
    let t = field 4 20 bytes in
    let xs = listed (extent_at bytes) 16 n 24 in
    let p0 = and_parts (eqb t blocks && (leb n 1024 && (ltb (field 8 8 bytes) (2 ^ 40) && eqb (length bytes) (24 + 16 * n)))) _ s in
    let p1 = and_parts (eqb t blocks) _ p0.0 in
    let p2 = and_parts (leb n 1024) _ p1.1 in
    let p3 = and_parts (ltb (field 8 8 bytes) (2 ^ 40)) _ p2.1 in
    let long = eqb-true (length bytes) (24 + 16 * n) p3.1 in
    let q = table_from_chain name blocks no_extent xs p0.1 in
    record { few = leb-true n 1024 p2.0; room = omega arith; tabled = q.1; range = ranged name blocks xs q.2 }

-- sound bytes have a name, and are sound for their kind
pub headed : (blocks name : ℕ) (bytes : List ℕ) → Bytes bytes → name < 2 ^ 32 → sound blocks name bytes ≡ true → Headed blocks name bytes
headed blocks name bytes each high s =
    let p0 = and_parts (framed blocks bytes) _ s in
    let p1 = and_parts (disk_size blocks) _ p0.0 in
    let p2 = and_parts (eqb (field 4 4 bytes) name) _ p0.1 in
    let p3 = and_parts (leb 1 name) _ p2.1 in
    record { each = each; disk = p1.0; room = leb-true 24 (length bytes) p1.1; named = eqb-true (field 4 4 bytes) name p2.0; low = leb-true 1 name p3.0; high = high }

kind_part : (blocks name : ℕ) (bytes : List ℕ) → sound blocks name bytes ≡ true → kind_sound (field 4 0 bytes) name blocks bytes ≡ true
kind_part blocks name bytes s =
    let p0 = and_parts (framed blocks bytes) _ s in
    let p2 = and_parts (eqb (field 4 4 bytes) name) _ p0.1 in
    (and_parts (leb 1 name) _ p2.1).1

-- an object of a kind that carries blocks is sound for it
carrier_is_sound : (c : Carrier) (blocks name : ℕ) (bytes : List ℕ) → field 4 0 bytes ≡ carrier_kind c → sound blocks name bytes ≡ true → carrier_sound c blocks bytes ≡ true
carrier_is_sound Data blocks name bytes kind s = ap (λ k. kind_sound k name blocks bytes) (sym kind) ∙ kind_part blocks name bytes s
carrier_is_sound Clean blocks name bytes kind s = ap (λ k. kind_sound k name blocks bytes) (sym kind) ∙ kind_part blocks name bytes s

checkpoint_is_sound : (blocks name : ℕ) (bytes : List ℕ) → field 4 0 bytes ≡ 3 → sound blocks name bytes ≡ true → checkpoint_sound name blocks bytes ≡ true
checkpoint_is_sound blocks name bytes kind s = ap (λ k. kind_sound k name blocks bytes) (sym kind) ∙ kind_part blocks name bytes s

-- an object that carries blocks was applied
pub carrier_taken : (c : Carrier) (name records count : ℕ) (bytes : List ℕ) (m w : Mapped Place) → Headed m.blocks name bytes → field 4 0 bytes ≡ carrier_kind c → carrier_sound c m.blocks bytes ≡ true
    → count ≡ counted (carrier_at c bytes) records → w.blocks ≡ m.blocks
    → ((b : ℕ) → places w b ≡ laid (field 4 4 bytes) (field 4 16 bytes) 0 (listed (entry_at bytes) 8 (field 4 16 bytes) 24) (places m) b) → Takes name bytes records m count w
unfolding carrier_good
carrier_taken c name records count bytes m w k kind s counts same over =
    let u = carrier_good c m.blocks name bytes k kind s in
    let n = length_listed (entry_at bytes) 8 (field 4 16 bytes) 24 in
    record {
      object = carrier_at c bytes;
      good = u.good;
      is = u.is;
      count_is = counts;
      blocks_stay = same;
      places_are = λ b. over b ∙ ap (λ j. laid (field 4 4 bytes) j 0 (listed (entry_at bytes) 8 (field 4 16 bytes) 24) (places m) b) (sym n);
    }

-- a checkpoint was applied
pub checkpoint_taken : (name records : ℕ) (bytes : List ℕ) (m w : Mapped Place) → Headed m.blocks name bytes → field 4 0 bytes ≡ 3 → checkpoint_sound name m.blocks bytes ≡ true
    → w.blocks ≡ m.blocks → w.extents ≡ listed (extent_at bytes) 16 (field 4 16 bytes) 24 → Takes name bytes records m (field 8 8 bytes) w
unfolding checkpoint_good
checkpoint_taken name records bytes m w k kind s same table =
    let u = checkpoint_good m.blocks name bytes k kind s in
    record {
      object = checkpoint_at bytes;
      good = u.good;
      is = u.is;
      count_is = refl;
      blocks_stay = same;
      places_are = λ b. ap (λ xs. target_at place_advanced xs b) table;
    }

-- an object that carries blocks which do not fit the count
carrier_overflows : (c : Carrier) (name records : ℕ) (bytes : List ℕ) (m : Mapped Place) → Headed m.blocks name bytes → field 4 0 bytes ≡ carrier_kind c → carrier_sound c m.blocks bytes ≡ true
    → 2 ^ 64 ≤ recorded c (field 4 20 bytes) records → Overflows name bytes records m
unfolding carrier_good
carrier_overflows c name records bytes m k kind s past =
    let u = carrier_good c m.blocks name bytes k kind s in
    let sum = (laying c m.blocks bytes s).sum in
    record { object = carrier_at c bytes; good = u.good; is = u.is; past = subst (λ t. 2 ^ 64 ≤ recorded c t records) (sym sum) past }

-- the same, with the header and the entries that were read

-- what laying the entries asks of them
pub record LayFacts (h : Header) (blocks : ℕ) (bytes : List ℕ) (parts : List (List ℕ)) : Type 0 where
  pub few : length parts ≤ 32
  pub fit : every (entry_fits 32 blocks) (entries_said parts) ≡ true
  pub sum : total (entries_said parts) ≤ 32

pub lay_facts : (c : Carrier) (h : Header) (blocks : ℕ) (bytes : List ℕ) (parts : List (List ℕ)) → h ≡ header_at bytes → h.kind ≡ carrier_kind c → sound blocks h.number bytes ≡ true
    → parts ≡ first_chunks 8 h.entries (drop 24 bytes) → LayFacts h blocks bytes parts
lay_facts c h blocks bytes parts is kind s are =
    let l = laying c blocks bytes (carrier_is_sound c blocks h.number bytes (ap (λ x. x.kind) (sym is) ∙ kind) s) in
    let n : h.entries ≡ field 4 16 bytes = ap (λ x. x.entries) is in
    let chunks : parts ≡ first_chunks 8 (field 4 16 bytes) (drop 24 bytes) = are ∙ ap (λ k. first_chunks 8 k (drop 24 bytes)) n in
    let es : entries_said parts ≡ listed (entry_at bytes) 8 (field 4 16 bytes) 24 = ap entries_said chunks ∙ entries_are (field 4 16 bytes) bytes in
    let count : length parts ≡ field 4 16 bytes = ap length chunks ∙ length_chunks 8 (field 4 16 bytes) (drop 24 bytes) in
    record { few = omega (arith, l.few); fit = ap (every (entry_fits 32 blocks)) es ∙ l.fit; sum = omega (arith, ap total es, l.most) }

pub taken : (c : Carrier) (h : Header) (records count : ℕ) (bytes : List ℕ) (parts : List (List ℕ)) (m w : Mapped Place) → Bytes bytes → h.number < 2 ^ 32 → h ≡ header_at bytes → h.kind ≡ carrier_kind c
    → sound m.blocks h.number bytes ≡ true → parts ≡ first_chunks 8 h.entries (drop 24 bytes) → count ≡ recorded c h.tally records → w.blocks ≡ m.blocks
    → ((b : ℕ) → places w b ≡ laid h.number (length parts) 0 (entries_said parts) (places m) b) → Takes h.number bytes records m count w
taken c h records count bytes parts m w each high is kind s are counts same over =
    let es : entries_said parts ≡ listed (entry_at bytes) 8 h.entries 24 = ap entries_said are ∙ entries_are h.entries bytes in
    let long : length parts ≡ h.entries = ap length are ∙ length_chunks 8 h.entries (drop 24 bytes) in
    let laid_over : (b : ℕ) → places w b ≡ laid h.number h.entries 0 (listed (entry_at bytes) 8 h.entries 24) (places m) b =
    λ b. over b ∙ ap (λ n. laid h.number n 0 (entries_said parts) (places m) b) long ∙ ap (λ l. laid h.number h.entries 0 l (places m) b) es in
    subst (λ (x : Header). x.number < 2 ^ 32 → x.kind ≡ carrier_kind c → sound m.blocks x.number bytes ≡ true → count ≡ recorded c x.tally records
    → ((b : ℕ) → places w b ≡ laid x.number x.entries 0 (listed (entry_at bytes) 8 x.entries 24) (places m) b) → Takes x.number bytes records m count w)
    (sym is)
    (λ high kind s counts over.
    let cs = carrier_is_sound c m.blocks (field 4 4 bytes) bytes kind s in
    carrier_taken c (field 4 4 bytes) records count bytes m w (headed m.blocks (field 4 4 bytes) bytes each high s) kind cs (counts ∙ ap (λ n. recorded c n records) (sym (laying c m.blocks bytes cs).sum)) same over)
    high kind s counts laid_over

pub past : (c : Carrier) (h : Header) (records : ℕ) (bytes : List ℕ) (m : Mapped Place) → Bytes bytes → h.number < 2 ^ 32 → h ≡ header_at bytes → h.kind ≡ carrier_kind c
    → sound m.blocks h.number bytes ≡ true → 2 ^ 64 ≤ recorded c h.tally records → Overflows h.number bytes records m
past c h records bytes m each high is kind s far =
    subst (λ (x : Header). x.number < 2 ^ 32 → x.kind ≡ carrier_kind c → sound m.blocks x.number bytes ≡ true → 2 ^ 64 ≤ recorded c x.tally records → Overflows x.number bytes records m)
    (sym is)
    (λ high kind s far. carrier_overflows c (field 4 4 bytes) records bytes m (headed m.blocks (field 4 4 bytes) bytes each high s) kind (carrier_is_sound c m.blocks (field 4 4 bytes) bytes kind s) far)
    high kind s far

-- what setting the table asks of it
pub record SetFacts (h : Header) (blocks : ℕ) (bytes : List ℕ) (parts : List (List ℕ)) : Type 0 where
  pub tabled : is_table place_advanced place_same (extents_said parts) ≡ true
  pub ranged : all_in_range place_advanced place_fits blocks (extents_said parts) ≡ true

pub set_facts : (h : Header) (blocks : ℕ) (bytes : List ℕ) (parts : List (List ℕ)) → h ≡ header_at bytes → h.kind ≡ 3 → sound blocks h.number bytes ≡ true
    → parts ≡ first_chunks 16 h.entries (drop 24 bytes) → SetFacts h blocks bytes parts
set_facts h blocks bytes parts is kind s are =
    let t = setting h.number blocks bytes (checkpoint_is_sound blocks h.number bytes (ap (λ x. x.kind) (sym is) ∙ kind) s) in
    let n : h.entries ≡ field 4 16 bytes = ap (λ x. x.entries) is in
    let xs : extents_said parts ≡ listed (extent_at bytes) 16 (field 4 16 bytes) 24 = ap extents_said are ∙ extents_are h.entries bytes ∙ ap (λ k. listed (extent_at bytes) 16 k 24) n in
    record { tabled = ap (is_table place_advanced place_same) xs ∙ t.tabled; ranged = ap (all_in_range place_advanced place_fits blocks) xs ∙ t.range }

pub table_taken : (h : Header) (records : ℕ) (bytes : List ℕ) (parts : List (List ℕ)) (m w : Mapped Place) → Bytes bytes → h.number < 2 ^ 32 → h ≡ header_at bytes → h.kind ≡ 3 → sound m.blocks h.number bytes ≡ true
    → parts ≡ first_chunks 16 h.entries (drop 24 bytes) → w.blocks ≡ m.blocks → w.extents ≡ extents_said parts → Takes h.number bytes records m h.first w
table_taken h records bytes parts m w each high is kind s are same table =
    let xs : w.extents ≡ listed (extent_at bytes) 16 h.entries 24 = table ∙ ap extents_said are ∙ extents_are h.entries bytes in
    subst (λ (x : Header). x.number < 2 ^ 32 → x.kind ≡ 3 → sound m.blocks x.number bytes ≡ true → w.extents ≡ listed (extent_at bytes) 16 x.entries 24 → Takes x.number bytes records m x.first w)
    (sym is)
    (λ high kind s table. checkpoint_taken (field 4 4 bytes) records bytes m w (headed m.blocks (field 4 4 bytes) bytes each high s) kind (checkpoint_is_sound m.blocks (field 4 4 bytes) bytes kind s) same table)
    high kind s xs
