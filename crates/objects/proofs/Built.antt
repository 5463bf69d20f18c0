-- The laws of building and of writing maps. Assumes nothing.
use Rattle.std.proofs.Common.{◌≡◌, ℕ, ◌+◌, ◌*◌, ◌^◌, ◌<◌, ◌≤◌, Bool, true, ◌&&◌, eqb, ltb, leb, List, [], ◌∷◌, ◌++◌, length, take, drop, sym, refl, ap, ◌∙◌, append_assoc, append-nil, arith}
use borrow.Rule.Slice.PartMut.{put_mid}
use Rattle.std.specs.List.{flat_map}
use Rattle.std.proofs.lemmas.Bool.{and_parts, and_from, leb-true, ltb-true, eqb-true, le-leb, lt-ltb, eq-eqb}
use Rattle.std.proofs.lemmas.List.{length-append, length_push, flat_map_more}
use Rattle.extents.specs.Map.{target_at}
use Rattle.extents.specs.Kinds.{place_advanced, place_laws}
use Rattle.extents.proofs.Tables.{one_writing}
use Rattle.objects.specs.declared.entry.Entry.{Entry}
use Rattle.objects.specs.declared.states.Draft.{Draft}
use Rattle.objects.specs.declared.states.Filling.{Filling}
use Rattle.objects.specs.declared.states.Numbered.{Numbered}
use Rattle.objects.specs.Layout.{checkpoint, entry_bytes, header_bytes, payload_offset, total, written}
use Rattle.objects.specs.Rules.{every, disk_size, entry_fits, most_blocks, valid}
use Rattle.objects.specs.Building.{entered, with_block, may_enter, may_add, may_close, draft_header, closed}
use Rattle.objects.specs.Laws.{OneMap, HasEntries, HasPayload, built_object, Building}
use Rattle.objects.proofs.Writings.{checks, one_object, table_same}
use Rattle.objects.proofs.Sound.{length_entry, length_header}
use Rattle.objects.proofs.Puts.{grown, headed}

pub one_map : OneMap
one_map blocks name number first size xs ys p q = (
  λ same. ap (λ t. written (checkpoint number first size t)) (one_writing place_laws xs ys (checks blocks name number first size xs p).sorted (checks blocks name number first size ys q).sorted same),
  λ same b. ap (λ t. target_at place_advanced t b) (table_same (one_object blocks blocks name name (checkpoint number first size xs) (checkpoint number first size ys) p q same)),
)

every_push : (ok : Entry → Bool) (es : List Entry) (e : Entry) → every ok es ≡ true → ok e ≡ true → every ok (es ++ e ∷ []) ≡ true
every_push ok [] e h g = and_from _ _ g refl
every_push ok (x ∷ xs) e h g = let p = and_parts (ok x) _ h in and_from _ _ p.0 (every_push ok xs e p.1 g)

total_push : (es : List Entry) (e : Entry) → total (es ++ e ∷ []) ≡ total es + e.count
total_push [] e = omega arith
total_push (x ∷ xs) e = let rest = total_push xs e in omega arith

enters : (s : Numbered Draft) (e : Entry) (buf : List ℕ) (es : List Entry) → HasEntries s buf es → may_enter s.stage e buf ≡ true
    → HasEntries (entered s e) (put_mid (24 + 8 * s.stage.entries) 8 buf (entry_bytes e)) (es ++ e ∷ [])
enters s e buf es h may =
    let k = h.counts in
    let p = and_parts (ltb s.stage.entries 32 && entry_fits (most_blocks s.stage.carrier) s.stage.blocks e) _ may in
    let q = and_parts (ltb s.stage.entries 32) _ p.0 in
    let r = and_parts (leb (s.stage.tally + e.count) 32) _ p.1 in
    let few = ltb-true s.stage.entries 32 q.0 in
    let most = leb-true (s.stage.tally + e.count) 32 r.0 in
    let room = leb-true (24 + 8 * s.stage.entries + 8) (length buf) r.1 in
    let n = length_push es e in
    let t = total_push es e in
    let count = k.count in
    let sum = k.sum in
    let width : 8 * length (es ++ e ∷ []) ≡ 8 * length es + 8 = omega arith in
    let at : 24 + 8 * s.stage.entries ≡ 24 + 8 * length es = omega arith in
    record {
      counts = record { count = omega arith; sum = omega arith; few = omega arith; most = omega arith; fit = every_push (entry_fits (most_blocks s.stage.carrier) s.stage.blocks) es e k.fit q.1 };
      bytes = ap (λ m. take m (drop 24 (put_mid (24 + 8 * s.stage.entries) 8 buf (entry_bytes e)))) width
          ∙ grown 24 (8 * length es) 8 (24 + 8 * s.stage.entries) buf (entry_bytes e) room (length_entry e) at
          ∙ ap (λ l. l ++ entry_bytes e) h.bytes ∙ flat_map_more entry_bytes [] es e;
    }

adds : (s : Numbered Filling) (block buf : List ℕ) (es : List Entry) (payload : List ℕ) → HasPayload s buf es payload → may_add s.stage.draft s.stage.added block buf ≡ true
    → HasPayload (with_block s) (put_mid (payload_offset s.stage.draft.entries s.stage.added) 512 buf block) es (payload ++ block)
adds s block buf es payload h may =
    let k = h.counts in
    let p = and_parts (ltb s.stage.added s.stage.draft.tally) _ may in
    let q = and_parts (eqb (length block) 512) _ p.1 in
    let size = eqb-true (length block) 512 q.0 in
    let room = leb-true (payload_offset s.stage.draft.entries s.stage.added + 512) (length buf) q.1 in
    let count = k.count in
    let long = h.long in
    let width : 8 * length es + 512 * (s.stage.added + 1) ≡ 8 * length es + 512 * s.stage.added + 512 = omega arith in
    let at : payload_offset s.stage.draft.entries s.stage.added ≡ 24 + (8 * length es + 512 * s.stage.added) = omega arith in
    record {
      counts = k;
      long = length-append payload block ∙ omega arith;
      bytes = ap (λ m. take m (drop 24 (put_mid (payload_offset s.stage.draft.entries s.stage.added) 512 buf block))) width
          ∙ grown 24 (8 * length es + 512 * s.stage.added) 512 (payload_offset s.stage.draft.entries s.stage.added) buf block room size at
          ∙ ap (λ l. l ++ block) h.bytes ∙ append_assoc (flat_map entry_bytes es) payload block;
    }

closes : (s : Numbered Filling) (buf : List ℕ) (es : List Entry) (payload : List ℕ) → HasPayload s buf es payload → may_close s.stage.draft s.stage.added buf ≡ true
    → take (closed s).stage.length (put_mid 0 24 buf (header_bytes (draft_header s.token.number s.stage.draft))) ≡ written (built_object s es payload)
closes s buf es payload h may =
    let k = h.counts in
    let d = s.stage.draft in
    let p = and_parts (leb 1 d.entries) _ may in
    let q = and_parts (eqb s.stage.added d.tally) _ p.1 in
    let all = eqb-true s.stage.added d.tally q.0 in
    let count = k.count in
    let sum = k.sum in
    let hb = header_bytes (draft_header s.token.number d) in
    let span : payload_offset d.entries d.tally ≡ 24 + (8 * length es + 512 * s.stage.added) = omega arith in
    let front = headed 24 (8 * length es + 512 * s.stage.added) buf hb (length_header (draft_header s.token.number d)) in
    ap (λ m. take m (put_mid 0 24 buf hb)) span ∙ front ∙ ap (λ l. hb ++ l) h.bytes
    ∙ ap (λ x. header_bytes x ++ (flat_map entry_bytes es ++ payload)) (λ i. record { kind = (draft_header s.token.number d).kind; number = s.token.number; first = d.first; entries = count i; tally = sum i })

stands : (s : Numbered Filling) (buf : List ℕ) (es : List Entry) (payload : List ℕ) → HasPayload s buf es payload → may_close s.stage.draft s.stage.added buf ≡ true
    → disk_size s.stage.draft.blocks ≡ true → 1 ≤ s.token.number → s.token.number < 2 ^ 32 → s.stage.draft.first < 2 ^ 64 → valid s.stage.draft.blocks s.token.number (built_object s es payload) ≡ true
stands s buf es payload h may disk low high early =
    let k = h.counts in
    let d = s.stage.draft in
    let p = and_parts (leb 1 d.entries) _ may in
    let q = and_parts (eqb s.stage.added d.tally) _ p.1 in
    let some = leb-true 1 d.entries p.0 in
    let all = eqb-true s.stage.added d.tally q.0 in
    let count = k.count in
    let sum = k.sum in
    let long = h.long in
    and_from _ _ disk (and_from _ _ (eq-eqb s.token.number s.token.number refl) (and_from _ _ (le-leb 1 s.token.number low) (and_from _ _ (lt-ltb s.token.number (2 ^ 32) high)
    (and_from _ _ (le-leb 1 (length es) (omega arith)) (and_from _ _ (le-leb (length es) 32 k.few) (and_from _ _ k.fit (and_from _ _ (le-leb (total es) 32 k.most) (and_from _ _ (lt-ltb d.first (2 ^ 64) early) (eq-eqb (length payload) (512 * total es) (omega arith))))))))))

pub building : Building
building = record {
  begins = λ t c first blocks buf. record { counts = record { count = refl; sum = refl; few = omega arith; most = omega arith; fit = refl }; bytes = refl };
  enters = enters;
  fills = λ s buf es h. record { counts = h.counts; long = refl; bytes = ap (λ m. take m (drop 24 buf)) (omega arith) ∙ h.bytes ∙ sym (append-nil (flat_map entry_bytes es)) };
  adds = adds;
  closes = closes;
  stands = stands;
}
