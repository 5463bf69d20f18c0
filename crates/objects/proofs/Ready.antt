-- When a checkpoint may be built, and what its puts leave. Assumes nothing.
use Rattle.std.proofs.Common.{◌≡◌, ℕ, ◌+◌, ◌*◌, ◌^◌, ◌<◌, ◌≤◌, Bool, true, false, ◌&&◌, ltb, leb, List, length, sym, refl, arith}
use borrow.Rule.Slice.PartMut.{put_mid}
use Rattle.std.specs.List.{flat_map}
use Rattle.std.proofs.lemmas.Bool.{and_parts, and_from, leb-true, le-leb, lt-ltb, eq-eqb}
use Rattle.extents.specs.declared.extent.Extent.{Extent}
use Rattle.extents.specs.declared.target.Place.{Place}
use Rattle.endian.specs.Fields.{lies}
use Rattle.objects.specs.Layout.{checkpoint, header_of, header_bytes, extent_bytes, written}
use Rattle.objects.specs.Rules.{disk_size, valid}
use Rattle.objects.specs.Seen.{no_extent}
use Rattle.objects.specs.Building.{may_checkpoint, checkpoint_ready}
use Rattle.objects.proofs.Tables.{table_from_chain, chain_from_table, may_begin}
use Rattle.objects.proofs.Writings.{checks}
use Rattle.objects.proofs.Sound.{length_header}
use Rattle.objects.proofs.Puts.{put_on}

same_test : (a b : Bool) → (a ≡ true → b ≡ true) → (b ≡ true → a ≡ true) → a ≡ b
same_test true b f g = sym (f refl)
same_test false true f g = g refl
same_test false false f g = refl

-- the tests are those of a valid checkpoint
pub ready_is : (number first blocks : ℕ) (table : List (Extent Place)) (buf : List ℕ) → number < 2 ^ 32 → checkpoint_ready number first blocks table buf ≡ may_checkpoint number first blocks table buf
ready_is number first blocks table buf high = same_test (checkpoint_ready number first blocks table buf) (may_checkpoint number first blocks table buf) there back
  where
    there : checkpoint_ready number first blocks table buf ≡ true → may_checkpoint number first blocks table buf ≡ true
    there h =
        let p = and_parts (disk_size blocks && (leb 1 number && (leb (length table) 1024 && ltb first (2 ^ 40)))) _ h in
        let q = and_parts (disk_size blocks) _ p.0 in
        let r = and_parts (leb 1 number) _ q.1 in
        let s = and_parts (leb (length table) 1024) _ r.1 in
        let t = and_parts (lies 0 (24 + 16 * length table) buf) _ p.1 in
        let u = table_from_chain number blocks no_extent table t.1 in
        and_from _ _
        (and_from _ _ q.0 (and_from _ _ (eq-eqb number number refl) (and_from _ _ r.0 (and_from _ _ (lt-ltb number (2 ^ 32) high)
        (and_from _ _ (eq-eqb blocks blocks refl) (and_from _ _ s.0 (and_from _ _ s.1 (and_from _ _ u.1 u.2))))))))
        t.0

    back : may_checkpoint number first blocks table buf ≡ true → checkpoint_ready number first blocks table buf ≡ true
    back h =
        let p = and_parts (valid blocks number (checkpoint number first blocks table)) _ h in
        let k = checks blocks number number first blocks table p.0 in
        and_from _ _
        (and_from _ _ k.disk (and_from _ _ (le-leb 1 number k.low) (and_from _ _ (le-leb (length table) 1024 k.few) (lt-ltb first (2 ^ 40) k.early))))
        (and_from _ _ p.1 (chain_from_table number blocks no_extent table (may_begin number blocks table k.fit) k.sorted k.fit))

-- a checkpoint that may be built has room
pub ready_room : (number first blocks : ℕ) (table : List (Extent Place)) (buf : List ℕ) → checkpoint_ready number first blocks table buf ≡ true → 24 + 16 * length table ≤ length buf
ready_room number first blocks table buf h =
    let p = and_parts (disk_size blocks && (leb 1 number && (leb (length table) 1024 && ltb first (2 ^ 40)))) _ h in
    let t = and_parts (lies 0 (24 + 16 * length table) buf) _ p.1 in
    let r = leb-true (0 + (24 + 16 * length table)) (length buf) t.0 in
    omega arith

-- the header and then the table are the checkpoint's bytes
pub checkpoint_built : (number first blocks : ℕ) (table : List (Extent Place)) (buf mid after : List ℕ) → 24 + 16 * length table ≤ length buf
    → mid ≡ put_mid 0 24 buf (header_bytes (header_of (checkpoint number first blocks table))) → after ≡ put_mid 24 (16 * length table) mid (flat_map extent_bytes table)
    → after ≡ put_mid 0 (24 + 16 * length table) buf (written (checkpoint number first blocks table))
checkpoint_built number first blocks table buf mid after room first-put second-put =
    put_on 0 24 (16 * length table) 24 buf (header_bytes (header_of (checkpoint number first blocks table))) (flat_map extent_bytes table) mid after (omega arith)
    (length_header (header_of (checkpoint number first blocks table))) refl first-put second-put
