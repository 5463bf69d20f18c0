-- The check of bytes finds exactly the undamaged objects. Assumes nothing.
use Rattle.std.proofs.Common.{◌≡◌, ℕ, ◌+◌, ◌*◌, ◌^◌, ◌<◌, ◌≤◌, Bool, true, false, cond, ◌&&◌, eqb, ltb, leb, ◌⊎◌, List, [], ◌++◌, length, take, drop, Ok, Err, IfErr, Result, sym, refl, ap, ◌∙◌, inl, inr, ⊎_elim, append-nil, arith}
use Rattle.std.specs.List.{flat_map}
use Rattle.std.proofs.lemmas.Bool.{and_parts, and_from, leb-true, eqb-true, le-leb, lt-ltb, eq-eqb, false≢true, both_ways}
use Rattle.std.proofs.lemmas.List.{take-append-drop, drop-drop, length-drop, length-append, drop_all}
use Rattle.extents.specs.declared.extent.Extent.{Extent}
use Rattle.extents.specs.declared.target.Place.{Place}
use Rattle.objects.specs.declared.header.Header.{Header}
use Rattle.objects.specs.declared.entry.Entry.{Entry}
use Rattle.objects.specs.declared.entry.Carrier.{Carrier}
use Rattle.objects.specs.declared.entry.Carrier.TheVariants.{Data, Clean}
use Rattle.objects.specs.declared.kind.Kind.{Kind}
use Rattle.objects.specs.declared.kind.Kind.TheVariants.{Checkpoint, Carrier as Carrying}
use Rattle.objects.specs.Layout.{Object, carrier, checkpoint, carrier_kind, kind_number, total, header_of, header_bytes, entry_bytes, extent_bytes, written}
use Rattle.objects.specs.Rules.{every, disk_size, most_blocks, entry_fits, extent_fits, valid}
use Rattle.objects.specs.Seen.{field, header_at, entry_at, extent_at, listed, carrier_at, checkpoint_at, carrier_sound, no_extent, chained, checkpoint_sound, kind_sound, framed, sound}
use Rattle.objects.specs.Reading.{Undamaged, IsDamaged, NoCheckpoint}
use Rattle.objects.proofs.Widths.{Bytes, field_small}
use Rattle.objects.proofs.Lists.{length_listed, joined_listed, length_joined}
use Rattle.objects.proofs.Tables.{table_from_chain, chain_from_table, may_begin}
use Rattle.endian.proofs.Laws.{length_le}
use Rattle.objects.proofs.Writings.{header_back, entry_back, extent_back, carries, checks, carrier_read, checkpoint_read, entries_read, table_read}

-- what the check of the header has found
pub record Headed (blocks name : ℕ) (bytes : List ℕ) : Type 0 where
  pub each : Bytes bytes
  pub disk : disk_size blocks ≡ true
  pub room : 24 ≤ length bytes
  pub named : field 4 4 bytes ≡ name
  pub low : 1 ≤ name
  pub high : name < 2 ^ 32

-- bytes are their header, their entries and what comes after
pub whole : {X : Type 0} (enc : X → List ℕ) (thing : ℕ → X) (step n : ℕ) (bytes : List ℕ) → Bytes bytes → 24 ≤ length bytes → 24 + step * n ≤ length bytes
    → ((at : ℕ) → at + step ≤ length bytes → enc (thing at) ≡ take step (drop at bytes))
    → header_bytes (header_at bytes) ++ (flat_map enc (listed thing step n 24) ++ drop (24 + step * n) bytes) ≡ bytes
whole enc thing step n bytes each room long back =
    let h = header_back bytes each room in
    let j = joined_listed thing enc bytes step back n 24 long in
    let d = sym (drop-drop (step * n) 24 bytes) in
    let a = take-append-drop (step * n) (drop 24 bytes) in
    let b = take-append-drop 24 bytes in
    simp (h, j, d, a, b)

unfoldable pub carrier_good : (c : Carrier) (blocks name : ℕ) (bytes : List ℕ) → Headed blocks name bytes → field 4 0 bytes ≡ carrier_kind c → carrier_sound c blocks bytes ≡ true → Undamaged blocks name bytes (header_at bytes)
carrier_good c blocks name bytes k kind s =
    let n = field 4 16 bytes in
    let t = field 4 20 bytes in
    let es = listed (entry_at bytes) 8 n 24 in
    let p0 = and_parts (leb 1 n && (leb n 32 && (leb t 32 && eqb (length bytes) (24 + 8 * n + 512 * t)))) _ s in
    let p1 = and_parts (leb 1 n) _ p0.0 in
    let p2 = and_parts (leb n 32) _ p1.1 in
    let p3 = and_parts (leb t 32) _ p2.1 in
    let p4 = and_parts (every (entry_fits (most_blocks c) blocks) es) _ p0.1 in
    let some = leb-true 1 n p1.0 in
    let few = leb-true n 32 p2.0 in
    let most = leb-true t 32 p3.0 in
    let long = eqb-true (length bytes) (24 + 8 * n + 512 * t) p3.1 in
    let sum : total es ≡ t = eqb-true (total es) t p4.1 in
    let count : length es ≡ n = length_listed (entry_at bytes) 8 n 24 in
    let early : field 8 8 bytes < 2 ^ 64 = field_small 8 8 bytes k.each (omega (arith, k.room)) in
    let kinds = sym kind in
    let says : header_of (carrier_at c bytes) ≡ header_at bytes = λ i. record { kind = kinds i; number = field 4 4 bytes; first = field 8 8 bytes; entries = count i; tally = sum i } in
    let rest : length (drop (24 + 8 * n) bytes) ≡ 512 * total es = simp length-drop (omega arith) in
    record {
      object = carrier_at c bytes;
      good = and_from _ _ k.disk (and_from _ _ (eq-eqb _ _ k.named) (and_from _ _ (le-leb 1 name k.low) (and_from _ _ (lt-ltb name (2 ^ 32) k.high)
          (and_from _ _ (le-leb 1 (length es) (omega arith)) (and_from _ _ (le-leb (length es) 32 (omega arith)) (and_from _ _ p4.0 (and_from _ _ (le-leb (total es) 32 (omega arith)) (and_from _ _ (lt-ltb _ (2 ^ 64) early) (eq-eqb _ _ rest)))))))));
      is = ap (λ h. header_bytes h ++ (flat_map entry_bytes es ++ drop (24 + 8 * n) bytes)) says ∙ whole entry_bytes (entry_at bytes) 8 n bytes k.each k.room (omega arith) (entry_back bytes k.each);
      says = says;
    }

unfoldable pub checkpoint_good : (blocks name : ℕ) (bytes : List ℕ) → Headed blocks name bytes → field 4 0 bytes ≡ 3 → checkpoint_sound name blocks bytes ≡ true → Undamaged blocks name bytes (header_at bytes)
checkpoint_good blocks name bytes k kind s =
    let n = field 4 16 bytes in
    let t = field 4 20 bytes in
    let xs = listed (extent_at bytes) 16 n 24 in
    let p0 = and_parts (eqb t blocks && (leb n 1024 && (ltb (field 8 8 bytes) (2 ^ 40) && eqb (length bytes) (24 + 16 * n)))) _ s in
    let p1 = and_parts (eqb t blocks) _ p0.0 in
    let p2 = and_parts (leb n 1024) _ p1.1 in
    let p3 = and_parts (ltb (field 8 8 bytes) (2 ^ 40)) _ p2.1 in
    let few = leb-true n 1024 p2.0 in
    let long = eqb-true (length bytes) (24 + 16 * n) p3.1 in
    let count : length xs ≡ n = length_listed (extent_at bytes) 16 n 24 in
    let q = table_from_chain name blocks no_extent xs p0.1 in
    let fit : every (extent_fits (field 4 4 bytes) blocks) xs ≡ true = ap (λ m. every (extent_fits m blocks) xs) k.named ∙ q.2 in
    let kinds = sym kind in
    let says : header_of (checkpoint_at bytes) ≡ header_at bytes = λ i. record { kind = kinds i; number = field 4 4 bytes; first = field 8 8 bytes; entries = count i; tally = t } in
    let end : drop (24 + 16 * n) bytes ≡ [] = drop_all (24 + 16 * n) bytes (omega arith) in
    let all = whole extent_bytes (extent_at bytes) 16 n bytes k.each k.room (omega arith) (extent_back bytes k.each) in
    record {
      object = checkpoint_at bytes;
      good = and_from _ _ k.disk (and_from _ _ (eq-eqb _ _ k.named) (and_from _ _ (le-leb 1 name k.low) (and_from _ _ (lt-ltb name (2 ^ 32) k.high)
          (and_from _ _ p1.0 (and_from _ _ (le-leb (length xs) 1024 (omega arith)) (and_from _ _ p3.0 (and_from _ _ q.1 fit)))))));
      is = ap (λ h. header_bytes h ++ flat_map extent_bytes xs) says ∙ simp (end, append-nil) at all;
      says = says;
    }

pub length_header : (h : Header) → length (header_bytes h) ≡ 24
length_header h = simp (length-append, length_le)

pub length_entry : (e : Entry) → length (entry_bytes e) ≡ 8
length_entry e = simp (length-append, length_le)

pub length_extent : (x : Extent Place) → length (extent_bytes x) ≡ 16
length_extent x = simp (length-append, length_le)

-- which kind bytes have that are sound
kind_cases : (kind : ℕ) (a b c : Bool) → cond (eqb kind 1) a (cond (eqb kind 2) b (cond (eqb kind 3) c false)) ≡ true
    → ((kind ≡ 1) × (a ≡ true)) ⊎ (((kind ≡ 2) × (b ≡ true)) ⊎ ((kind ≡ 3) × (c ≡ true)))
kind_cases kind a b c h = go (eqb kind 1) refl (eqb kind 2) refl (eqb kind 3) refl h
  where
    go : (x : Bool) → eqb kind 1 ≡ x → (y : Bool) → eqb kind 2 ≡ y → (z : Bool) → eqb kind 3 ≡ z → cond x a (cond y b (cond z c false)) ≡ true
        → ((kind ≡ 1) × (a ≡ true)) ⊎ (((kind ≡ 2) × (b ≡ true)) ⊎ ((kind ≡ 3) × (c ≡ true)))
    go true p y q z r h = inl (eqb-true kind 1 p, h)
    go false p true q z r h = inr (inl (eqb-true kind 2 q, h))
    go false p false q true r h = inr (inr (eqb-true kind 3 r, h))
    go false p false q false r h = absurd (false≢true h)

-- bytes that are sound are undamaged
pub undamaged : (blocks name : ℕ) (bytes : List ℕ) → Bytes bytes → name < 2 ^ 32 → sound blocks name bytes ≡ true → Undamaged blocks name bytes (header_at bytes)
undamaged blocks name bytes each high s =
    let p0 = and_parts (framed blocks bytes) _ s in
    let p1 = and_parts (disk_size blocks) _ p0.0 in
    let p2 = and_parts (eqb (field 4 4 bytes) name) _ p0.1 in
    let p3 = and_parts (leb 1 name) _ p2.1 in
    let k : Headed blocks name bytes = record { each = each; disk = p1.0; room = leb-true 24 (length bytes) p1.1; named = eqb-true (field 4 4 bytes) name p2.0; low = leb-true 1 name p3.0; high = high } in
    ⊎_elim (λ d. carrier_good Data blocks name bytes k d.0 d.1)
    (λ r. ⊎_elim (λ d. carrier_good Clean blocks name bytes k d.0 d.1) (λ d. checkpoint_good blocks name bytes k d.0 d.1) r)
    (kind_cases (field 4 0 bytes) (carrier_sound Data blocks bytes) (carrier_sound Clean blocks bytes) (checkpoint_sound name blocks bytes) p3.1)

by_kind : (c : Carrier) (blocks name kind : ℕ) (bytes : List ℕ) → kind ≡ carrier_kind c → carrier_sound c blocks bytes ≡ true → kind_sound kind name blocks bytes ≡ true
by_kind Data blocks name kind bytes is s = ap (λ k. kind_sound k name blocks bytes) is ∙ s
by_kind Clean blocks name kind bytes is s = ap (λ k. kind_sound k name blocks bytes) is ∙ s

-- the bytes of a valid object are sound
pub sound_written : (blocks name : ℕ) (o : Object) (bytes : List ℕ) → valid blocks name o ≡ true → written o ≡ bytes → sound blocks name bytes ≡ true
sound_written blocks name (carrier c number first es payload) bytes good is =
    let o = carrier c number first es payload in
    let k = carries blocks name c number first es payload good in
    let r = carrier_read blocks name c number first es payload bytes k (sym is) in
    let e = ap (λ y. y.entries) r.0 in
    let t = ap (λ y. y.tally) r.0 in
    let n = ap (λ y. y.number) r.0 in
    let long : length bytes ≡ 24 + 8 * length es + 512 * total es =
    ap length (sym is) ∙ simp (length-append, length_le, length_joined entry_bytes 8 length_entry) (omega (arith, k.long)) in
    let list = entries_read c bytes r.1 in
    and_from _ _
    (and_from _ _ k.size (le-leb 24 (length bytes) (omega arith)))
    (and_from _ _ (eq-eqb _ _ (n ∙ k.named)) (and_from _ _ (le-leb 1 name k.low) (by_kind c blocks name (field 4 0 bytes) bytes (ap (λ y. y.kind) r.0)
    (and_from _ _
    (and_from _ _ (le-leb 1 (field 4 16 bytes) (omega (arith, k.some, e))) (and_from _ _ (le-leb (field 4 16 bytes) 32 (omega (arith, k.few, e))) (and_from _ _ (le-leb (field 4 20 bytes) 32 (omega (arith, k.most, t))) (eq-eqb (length bytes) (24 + 8 * field 4 16 bytes + 512 * field 4 20 bytes) (omega arith)))))
    (and_from _ _ (ap (every (entry_fits (most_blocks c) blocks)) list ∙ k.fit) (eq-eqb _ _ (ap total list ∙ sym t)))))))
sound_written blocks name (checkpoint number first size table) bytes good is =
    let k = checks blocks name number first size table good in
    let r = checkpoint_read blocks name number first size table bytes k (sym is) in
    let e = ap (λ y. y.entries) r.0 in
    let t = ap (λ y. y.tally) r.0 in
    let n = ap (λ y. y.number) r.0 in
    let f = ap (λ y. y.first) r.0 in
    let long : length bytes ≡ 24 + 16 * length table =
    ap length (sym is) ∙ simp (length-append, length_le, length_joined extent_bytes 16 length_extent) (omega arith) in
    let list = table_read bytes r.1 in
    let fit : every (extent_fits name blocks) table ≡ true = ap (λ m. every (extent_fits m blocks) table) (sym k.named) ∙ k.fit in
    and_from _ _
    (and_from _ _ k.disk (le-leb 24 (length bytes) (omega arith)))
    (and_from _ _ (eq-eqb _ _ (n ∙ k.named)) (and_from _ _ (le-leb 1 name k.low) (ap (λ m. kind_sound m name blocks bytes) (ap (λ y. y.kind) r.0)
    ∙ and_from _ _
    (and_from _ _ (eq-eqb _ _ (t ∙ k.whole)) (and_from _ _ (le-leb (field 4 16 bytes) 1024 (omega (arith, k.few, e))) (and_from _ _ (lt-ltb (field 8 8 bytes) (2 ^ 40) (omega (arith, k.early, f))) (eq-eqb (length bytes) (24 + 16 * field 4 16 bytes) (omega arith)))))
    (ap (chained name blocks no_extent) list ∙ chain_from_table name blocks no_extent table (may_begin name blocks table fit) k.sorted fit))))

-- bytes that are not sound are damaged
pub damaged : (blocks name : ℕ) (bytes : List ℕ) → sound blocks name bytes ≡ false → IsDamaged blocks name bytes
damaged blocks name bytes s o good is = both_ways (sound blocks name bytes) s (sound_written blocks name o bytes good is)

-- the header of a valid object is the one that its bytes say
pub header_found : (blocks name : ℕ) (o : Object) (bytes : List ℕ) → valid blocks name o ≡ true → written o ≡ bytes → header_at bytes ≡ header_of o
header_found blocks name (carrier c number first es payload) bytes good is = (carrier_read blocks name c number first es payload bytes (carries blocks name c number first es payload good) (sym is)).0
header_found blocks name (checkpoint number first size table) bytes good is = (checkpoint_read blocks name number first size table bytes (checks blocks name number first size table good) (sym is)).0

-- a checkpoint's tally is the disk's size
tally_is : (blocks name : ℕ) (o : Object) → valid blocks name o ≡ true → (header_of o).kind ≡ 3 → (header_of o).tally ≡ blocks
tally_is blocks name (carrier Data number first es payload) good kind = absurd (omega arith)
tally_is blocks name (carrier Clean number first es payload) good kind = absurd (omega arith)
tally_is blocks name (checkpoint number first size table) good kind = (checks blocks name number first size table good).whole

-- what holds anyway holds of an error
pub if_err : {T E X : Type 0} (r : Result T E) → X → IfErr r (λ _. X)
if_err (Ok v) x = tt
if_err (Err e) x = x

-- bytes too few for a header are no object
pub too_short : (bytes : List ℕ) → length bytes < 24 → (blocks name : ℕ) → IsDamaged blocks name bytes
too_short bytes short blocks name o good is =
    let p = and_parts (framed blocks bytes) _ (sound_written blocks name o bytes good is) in
    let room = leb-true 24 (length bytes) (and_parts (disk_size blocks) _ p.0).1 in
    omega arith

-- bytes whose header has the number of no kind are no object
pub no_kind : (bytes : List ℕ) (h : Header) → h ≡ header_at bytes → ((kind : Kind) → kind_number kind ≡ h.kind → ⊥) → (blocks name : ℕ) → IsDamaged blocks name bytes
no_kind bytes h is none blocks name o good w = by_object o (ap (λ x. x.kind) (is ∙ header_found blocks name o bytes good w))
  where
    by_object : (o : Object) → h.kind ≡ (header_of o).kind → ⊥
    by_object (carrier c number first es payload) same = none (Carrying c) (sym same)
    by_object (checkpoint number first blocks table) same = none Checkpoint (sym same)

pub other_kind : (name : ℕ) (bytes : List ℕ) (h : Header) → h ≡ header_at bytes → (h.kind ≡ 3 → ⊥) → NoCheckpoint name bytes
other_kind name bytes h is other blocks o good kind w = other (ap (λ x. x.kind) (is ∙ header_found blocks name o bytes good w) ∙ kind)

-- the kinds that carry blocks are not the third
pub not_third : (c : Carrier) (n : ℕ) → carrier_kind c ≡ n → n ≡ 3 → ⊥
not_third Data n is three = omega arith
not_third Clean n is three = omega arith

pub damaged_checkpoint : (name : ℕ) (bytes : List ℕ) (h : Header) → h ≡ header_at bytes → IsDamaged h.tally name bytes → NoCheckpoint name bytes
damaged_checkpoint name bytes h is bad blocks o good kind w =
    let t : h.tally ≡ blocks = ap (λ x. x.tally) (is ∙ header_found blocks name o bytes good w) ∙ tally_is blocks name o good kind in
    bad o (ap (λ n. valid n name o) t ∙ good) w
