-- Objects and their bytes: what is written is read again, and what is read was written. Assumes nothing.
use Rattle.std.proofs.Common.{◌≡◌, ℕ, ◌+◌, ◌*◌, ◌^◌, ◌<◌, ◌≤◌, true, eqb, ltb, leb, List, [], ◌++◌, length, take, drop, sym, refl, ap, ◌∙◌, append_assoc, append-nil, arith}
use Rattle.std.specs.List.{flat_map}
use Rattle.std.proofs.lemmas.Bool.{and_parts, leb-true, ltb-true, eqb-true}
use Rattle.endian.specs.Fields.{le}
use Rattle.extents.specs.declared.extent.Extent.{Extent}
use Rattle.extents.specs.declared.target.Place.{Place}
use Rattle.extents.specs.Map.{end, is_table}
use Rattle.extents.specs.Kinds.{place_advanced, place_same}
use Rattle.objects.specs.declared.header.Header.{Header}
use Rattle.objects.specs.declared.entry.Entry.{Entry}
use Rattle.objects.specs.declared.entry.Carrier.{Carrier}
use Rattle.objects.specs.declared.entry.Carrier.TheVariants.{Data, Clean}
use Rattle.objects.specs.Layout.{Object, carrier, checkpoint, carrier_kind, total, header_of, header_bytes, entry_bytes, extent_bytes, written}
use Rattle.objects.specs.Rules.{every, disk_size, most_blocks, entry_fits, extent_fits, valid, OneObject}
use Rattle.objects.specs.Seen.{field, header_at, entry_at, extent_at, listed, carrier_at, checkpoint_at, object_as, object_at}
use Rattle.objects.proofs.Widths.{Bytes, le_field, two_parts, next_field}
use Rattle.objects.proofs.Lists.{listed_joined}

-- a header whose numbers fit their fields
pub record Held (h : Header) : Type 0 where
  pub kind : h.kind < 256 ^ 4
  pub number : h.number < 256 ^ 4
  pub first : h.first < 256 ^ 8
  pub entries : h.entries < 256 ^ 4
  pub tally : h.tally < 256 ^ 4

-- the header that was written is read
pub header_read : (h : Header) (bytes rest : List ℕ) → Held h → bytes ≡ header_bytes h ++ rest → (header_at bytes ≡ h) × (drop 24 bytes ≡ rest)
header_read h bytes rest held is =
    let whole : drop 0 bytes ≡ le 4 h.kind ++ (le 4 h.number ++ (le 8 h.first ++ (le 4 h.entries ++ (le 4 h.tally ++ rest)))) = is ∙ simp append_assoc in
    let s0 = next_field 4 0 h.kind bytes _ held.kind whole in
    let s1 = next_field 4 4 h.number bytes _ held.number s0.1 in
    let s2 = next_field 8 8 h.first bytes _ held.first s1.1 in
    let s3 = next_field 4 16 h.entries bytes _ held.entries s2.1 in
    let s4 = next_field 4 20 h.tally bytes _ held.tally s3.1 in
    (λ i. record { kind = s0.0 i; number = s1.0 i; first = s2.0 i; entries = s3.0 i; tally = s4.0 i }, s4.1)

-- the header that was read is written
pub header_back : (bytes : List ℕ) → Bytes bytes → 24 ≤ length bytes → header_bytes (header_at bytes) ≡ take 24 bytes
header_back bytes each room =
    let f0 = le_field 4 0 bytes each (omega arith) in
    let f1 = le_field 4 4 bytes each (omega arith) in
    let f2 = le_field 8 8 bytes each (omega arith) in
    let f3 = le_field 4 16 bytes each (omega arith) in
    let f4 = le_field 4 20 bytes each (omega arith) in
    let t3 = two_parts 4 4 16 bytes in
    let t2 = two_parts 8 8 8 bytes in
    let t1 = two_parts 4 16 4 bytes in
    let t0 = two_parts 4 20 0 bytes in
    simp (f0, f1, f2, f3, f4, t3, t2, t1, t0)

-- an entry that was written is read
pub entry_read : (most blocks : ℕ) (bytes : List ℕ) → disk_size blocks ≡ true → (e : Entry) (at : ℕ) (rest : List ℕ) → entry_fits most blocks e ≡ true → drop at bytes ≡ entry_bytes e ++ rest → (entry_at bytes at ≡ e) × (drop (at + 8) bytes ≡ rest)
entry_read most blocks bytes size e at rest fits is =
    let small = leb-true blocks 1024 (and_parts (leb 1 blocks) _ size).1 in
    let p1 = and_parts (leb 1 e.count) _ fits in
    let p2 = and_parts (leb e.count most) _ p1.1 in
    let ends = leb-true (e.address + e.count) blocks p2.1 in
    let whole : drop at bytes ≡ le 4 e.address ++ (le 4 e.count ++ rest) = is ∙ simp append_assoc in
    let s0 = next_field 4 at e.address bytes _ (omega arith) whole in
    let s1 = next_field 4 (at + 4) e.count bytes _ (omega arith) s0.1 in
    (λ i. record { address = s0.0 i; count = s1.0 i }, ap (λ k. drop k bytes) (omega arith) ∙ s1.1)

-- an entry that was read is written
pub entry_back : (bytes : List ℕ) → Bytes bytes → (at : ℕ) → at + 8 ≤ length bytes → entry_bytes (entry_at bytes at) ≡ take 8 (drop at bytes)
entry_back bytes each at room =
    let f0 = le_field 4 at bytes each (omega arith) in
    let f1 = le_field 4 (at + 4) bytes each (omega arith) in
    let t0 = two_parts 4 4 at bytes in
    simp (f0, f1, t0)

-- an extent that was written is read
pub extent_read : (number blocks : ℕ) (bytes : List ℕ) → disk_size blocks ≡ true → number < 2 ^ 32 → (x : Extent Place) (at : ℕ) (rest : List ℕ) → extent_fits number blocks x ≡ true → drop at bytes ≡ extent_bytes x ++ rest → (extent_at bytes at ≡ x) × (drop (at + 16) bytes ≡ rest)
extent_read number blocks bytes size low x at rest fits is =
    let small = leb-true blocks 1024 (and_parts (leb 1 blocks) _ size).1 in
    let p1 = and_parts (leb (end x) blocks) _ fits in
    let p2 = and_parts (leb 1 x.target.object) _ p1.1 in
    let p3 = and_parts (ltb x.target.object number) _ p2.1 in
    let ends = leb-true (end x) blocks p1.0 in
    let below = ltb-true x.target.object number p3.0 in
    let last = leb-true (x.target.offset + 512 * x.length) 65536 p3.1 in
    let whole : drop at bytes ≡ le 4 x.first ++ (le 4 x.length ++ (le 4 x.target.object ++ (le 4 x.target.offset ++ rest))) = is ∙ simp append_assoc in
    let s0 = next_field 4 at x.first bytes _ (omega arith) whole in
    let s1 = next_field 4 (at + 4) x.length bytes _ (omega arith) s0.1 in
    let k2 : at + 4 + 4 ≡ at + 8 = omega arith in
    let s2 = next_field 4 (at + 8) x.target.object bytes _ (omega arith) (ap (λ k. drop k bytes) (sym k2) ∙ s1.1) in
    let k3 : at + 8 + 4 ≡ at + 12 = omega arith in
    let s3 = next_field 4 (at + 12) x.target.offset bytes _ (omega arith) (ap (λ k. drop k bytes) (sym k3) ∙ s2.1) in
    (λ i. record { first = s0.0 i; length = s1.0 i; target = record { object = s2.0 i; offset = s3.0 i } }, ap (λ k. drop k bytes) (omega arith) ∙ s3.1)

-- an extent that was read is written
pub extent_back : (bytes : List ℕ) → Bytes bytes → (at : ℕ) → at + 16 ≤ length bytes → extent_bytes (extent_at bytes at) ≡ take 16 (drop at bytes)
extent_back bytes each at room =
    let f0 = le_field 4 at bytes each (omega arith) in
    let f1 = le_field 4 (at + 4) bytes each (omega arith) in
    let f2 = le_field 4 (at + 8) bytes each (omega arith) in
    let f3 = le_field 4 (at + 12) bytes each (omega arith) in
    let k2 : at + 12 ≡ at + 8 + 4 = omega arith in
    let t2 : take 4 (drop (at + 8) bytes) ++ take 4 (drop (at + 12) bytes) ≡ take 8 (drop (at + 8) bytes) = ap (λ k. take 4 (drop (at + 8) bytes) ++ take 4 (drop k bytes)) k2 ∙ two_parts 4 4 (at + 8) bytes in
    let k1 : at + 8 ≡ at + 4 + 4 = omega arith in
    let t1 : take 4 (drop (at + 4) bytes) ++ take 8 (drop (at + 8) bytes) ≡ take 12 (drop (at + 4) bytes) = ap (λ k. take 4 (drop (at + 4) bytes) ++ take 8 (drop k bytes)) k1 ∙ two_parts 4 8 (at + 4) bytes in
    let t0 = two_parts 4 12 at bytes in
    simp (f0, f1, f2, f3, t2, t1, t0)

-- what a valid object that carries blocks says
pub record Carries (blocks name : ℕ) (c : Carrier) (number first : ℕ) (es : List Entry) (payload : List ℕ) : Type 0 where
  pub size : disk_size blocks ≡ true
  pub named : number ≡ name
  pub low : 1 ≤ name
  pub high : name < 2 ^ 32
  pub some : 1 ≤ length es
  pub few : length es ≤ 32
  pub fit : every (entry_fits (most_blocks c) blocks) es ≡ true
  pub most : total es ≤ 32
  pub early : first < 2 ^ 64
  pub long : length payload ≡ 512 * total es

pub carries : (blocks name : ℕ) (c : Carrier) (number first : ℕ) (es : List Entry) (payload : List ℕ) → valid blocks name (carrier c number first es payload) ≡ true → Carries blocks name c number first es payload
carries blocks name c number first es payload good =
    let p0 = and_parts (disk_size blocks) _ good in
    let p1 = and_parts (eqb number name) _ p0.1 in
    let p2 = and_parts (leb 1 name) _ p1.1 in
    let p3 = and_parts (ltb name (2 ^ 32)) _ p2.1 in
    let p4 = and_parts (leb 1 (length es)) _ p3.1 in
    let p5 = and_parts (leb (length es) 32) _ p4.1 in
    let p6 = and_parts (every (entry_fits (most_blocks c) blocks) es) _ p5.1 in
    let p7 = and_parts (leb (total es) 32) _ p6.1 in
    let p8 = and_parts (ltb first (2 ^ 64)) _ p7.1 in
    record {
      size = p0.0;
      named = eqb-true number name p1.0;
      low = leb-true 1 name p2.0;
      high = ltb-true name (2 ^ 32) p3.0;
      some = leb-true 1 (length es) p4.0;
      few = leb-true (length es) 32 p5.0;
      fit = p6.0;
      most = leb-true (total es) 32 p7.0;
      early = ltb-true first (2 ^ 64) p8.0;
      long = eqb-true (length payload) (512 * total es) p8.1;
    }

-- what a valid checkpoint says
pub record Checks (blocks name number first size : ℕ) (table : List (Extent Place)) : Type 0 where
  pub disk : disk_size blocks ≡ true
  pub named : number ≡ name
  pub low : 1 ≤ name
  pub high : name < 2 ^ 32
  pub whole : size ≡ blocks
  pub few : length table ≤ 1024
  pub early : first < 2 ^ 40
  pub sorted : is_table place_advanced place_same table ≡ true
  pub fit : every (extent_fits number blocks) table ≡ true

pub checks : (blocks name number first size : ℕ) (table : List (Extent Place)) → valid blocks name (checkpoint number first size table) ≡ true → Checks blocks name number first size table
checks blocks name number first size table good =
    let p0 = and_parts (disk_size blocks) _ good in
    let p1 = and_parts (eqb number name) _ p0.1 in
    let p2 = and_parts (leb 1 name) _ p1.1 in
    let p3 = and_parts (ltb name (2 ^ 32)) _ p2.1 in
    let p4 = and_parts (eqb size blocks) _ p3.1 in
    let p5 = and_parts (leb (length table) 1024) _ p4.1 in
    let p6 = and_parts (ltb first (2 ^ 40)) _ p5.1 in
    let p7 = and_parts (is_table place_advanced place_same table) _ p6.1 in
    record {
      disk = p0.0;
      named = eqb-true number name p1.0;
      low = leb-true 1 name p2.0;
      high = ltb-true name (2 ^ 32) p3.0;
      whole = eqb-true size blocks p4.0;
      few = leb-true (length table) 1024 p5.0;
      early = ltb-true first (2 ^ 40) p6.0;
      sorted = p7.0;
      fit = p7.1;
    }

kind_small : (c : Carrier) → carrier_kind c < 256 ^ 4
kind_small Data = omega arith
kind_small Clean = omega arith

-- an object that carries blocks is read as it was written
pub carrier_read : (blocks name : ℕ) (c : Carrier) (number first : ℕ) (es : List Entry) (payload bytes : List ℕ) → Carries blocks name c number first es payload → bytes ≡ written (carrier c number first es payload)
    → (header_at bytes ≡ header_of (carrier c number first es payload)) × (carrier_at c bytes ≡ carrier c number first es payload)
carrier_read blocks name c number first es payload bytes k is =
    let o = carrier c number first es payload in
    let held : Held (header_of o) = record { kind = kind_small c; number = omega (arith, k.named, k.high); first = omega (arith, k.early); entries = omega (arith, k.few); tally = omega (arith, k.most) } in
    let h = header_read (header_of o) bytes (flat_map entry_bytes es ++ payload) held is in
    let l = listed_joined (entry_at bytes) entry_bytes (entry_fits (most_blocks c) blocks) bytes 8 (entry_read (most_blocks c) blocks bytes k.size) es 24 payload k.fit h.1 in
    let e = ap (λ y. y.entries) h.0 in
    let list : listed (entry_at bytes) 8 (field 4 16 bytes) 24 ≡ es = ap (λ n. listed (entry_at bytes) 8 n 24) e ∙ l.0 in
    let rest : drop (24 + 8 * field 4 16 bytes) bytes ≡ payload = ap (λ n. drop (24 + 8 * n) bytes) e ∙ l.1 in
    let n = ap (λ y. y.number) h.0 in
    let f = ap (λ y. y.first) h.0 in
    (h.0, λ i. carrier c (n i) (f i) (list i) (rest i))

-- a checkpoint is read as it was written
pub checkpoint_read : (blocks name number first size : ℕ) (table : List (Extent Place)) (bytes : List ℕ) → Checks blocks name number first size table → bytes ≡ written (checkpoint number first size table)
    → (header_at bytes ≡ header_of (checkpoint number first size table)) × (checkpoint_at bytes ≡ checkpoint number first size table) × (drop (24 + 16 * length table) bytes ≡ [])
checkpoint_read blocks name number first size table bytes k is =
    let o = checkpoint number first size table in
    let small = leb-true blocks 1024 (and_parts (leb 1 blocks) _ k.disk).1 in
    let three : 3 < 256 ^ 4 = omega arith in
    let held : Held (header_of o) = record { kind = three; number = omega (arith, k.named, k.high); first = omega (arith, k.early); entries = omega (arith, k.few); tally = omega (arith, k.whole) } in
    let h = header_read (header_of o) bytes (flat_map extent_bytes table) held is in
    let low : number < 2 ^ 32 = omega (arith, k.named, k.high) in
    let after : drop 24 bytes ≡ flat_map extent_bytes table ++ [] = h.1 ∙ sym (append-nil (flat_map extent_bytes table)) in
    let l = listed_joined (extent_at bytes) extent_bytes (extent_fits number blocks) bytes 16 (extent_read number blocks bytes k.disk low) table 24 [] k.fit after in
    let e = ap (λ y. y.entries) h.0 in
    let list : listed (extent_at bytes) 16 (field 4 16 bytes) 24 ≡ table = ap (λ n. listed (extent_at bytes) 16 n 24) e ∙ l.0 in
    let n = ap (λ y. y.number) h.0 in
    let f = ap (λ y. y.first) h.0 in
    let t = ap (λ y. y.tally) h.0 in
    (h.0, λ i. checkpoint (n i) (f i) (t i) (list i), l.1)

-- the entries of an object that was read
pub entries_read : (c : Carrier) (bytes : List ℕ) {number first : ℕ} {es : List Entry} {payload : List ℕ} → carrier_at c bytes ≡ carrier c number first es payload → listed (entry_at bytes) 8 (field 4 16 bytes) 24 ≡ es
entries_read c bytes is = ap entries_of is
  where
    entries_of : Object → List Entry
    entries_of (carrier c number first es payload) = es
    entries_of (checkpoint number first size table) = []

-- the table of a checkpoint that was read
pub table_read : (bytes : List ℕ) {number first size : ℕ} {table : List (Extent Place)} → checkpoint_at bytes ≡ checkpoint number first size table → listed (extent_at bytes) 16 (field 4 16 bytes) 24 ≡ table
table_read bytes is = ap table_of is
  where
    table_of : Object → List (Extent Place)
    table_of (carrier c number first es payload) = []
    table_of (checkpoint number first size table) = table

-- the tables of equal checkpoints are equal
pub table_same : {number first size : ℕ} {xs ys : List (Extent Place)} → checkpoint number first size xs ≡ checkpoint number first size ys → xs ≡ ys
table_same is = cc

-- every valid object is read as it was written
pub object_read : (blocks name : ℕ) (o : Object) (bytes : List ℕ) → valid blocks name o ≡ true → bytes ≡ written o → object_at bytes ≡ o
object_read blocks name (carrier c number first es payload) bytes good is =
    let r = carrier_read blocks name c number first es payload bytes (carries blocks name c number first es payload good) is in
    by_carrier c bytes (ap (λ y. y.kind) r.0) ∙ r.1
  where
    by_carrier : (c : Carrier) (bytes : List ℕ) → field 4 0 bytes ≡ carrier_kind c → object_at bytes ≡ carrier_at c bytes
    by_carrier Data bytes kind = ap (λ k. object_as k bytes) kind
    by_carrier Clean bytes kind = ap (λ k. object_as k bytes) kind
object_read blocks name (checkpoint number first size table) bytes good is =
    let r = checkpoint_read blocks name number first size table bytes (checks blocks name number first size table good) is in
    ap (λ k. object_as k bytes) (ap (λ y. y.kind) r.0) ∙ r.1

pub one_object : OneObject
one_object blocks size name title a b p q same = sym (object_read blocks name a (written a) p refl) ∙ object_read size title b (written a) q same
