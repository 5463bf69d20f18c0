-- An object while it is built. Assumes nothing.
use Rattle.std.specs.Prelude.{◌≡◌, ℕ, ◌+◌, ◌*◌, ◌^◌, Bool, true, false, cond, ◌&&◌, List, length, Some, None, Ok, Err, Option, Result, ◌==◌, nat_le, nat_lt}
use borrow.Rule.Slice.PartMut.{put_mid}
use Rattle.endian.specs.Fields.{lies}
use Rattle.objects.specs.declared.entry.Entry.{Entry}
use Rattle.objects.specs.declared.entry.Carrier.{Carrier}
use Rattle.objects.specs.declared.states.Numbers.{Numbers}
use Rattle.objects.specs.declared.states.NumberToken.{NumberToken}
use Rattle.objects.specs.declared.states.Draft.{Draft}
use Rattle.objects.specs.declared.states.Filling.{Filling}
use Rattle.objects.specs.declared.states.Complete.{Complete}
use Rattle.objects.specs.declared.states.Numbered.{Numbered}
use Rattle.objects.specs.declared.header.Header.{Header}
use Rattle.objects.specs.Layout.{checkpoint, carrier_kind, entry_bytes, header_bytes, payload_offset, written}
use Rattle.extents.specs.declared.extent.Extent.{Extent}
use Rattle.extents.specs.declared.target.Place.{Place}
use Rattle.objects.specs.Rules.{disk_size, entry_fits, most_blocks, valid}
use Rattle.objects.specs.Seen.{chained, no_extent}

-- The numbers after a last one.
abbrev pub after_number : ℕ → Numbers
after_number last = record { last = last }

-- The token of a number.
abbrev pub token : ℕ → NumberToken
token number = record { number = number }

-- What taking a number answers and leaves: the next one, unless 4,294,967,295 was the last.
abbrev pub taken : Numbers → Option NumberToken × Numbers
taken n = cond (n.last == 4294967295) (None, n) (Some (token (n.last + 1)), after_number (n.last + 1))

-- An object just begun.
abbrev pub begun : NumberToken → Carrier → ℕ → ℕ → Numbered Draft
begun t c first blocks = record { token = t; stage = record { carrier = c; first = first; blocks = blocks; entries = 0; tally = 0 } }

-- The draft with an entry more.
abbrev pub with_entry : Draft → Entry → Draft
with_entry d e = record { carrier = d.carrier; first = d.first; blocks = d.blocks; entries = d.entries + 1; tally = d.tally + e.count }

-- The object with an entry more.
abbrev pub entered : Numbered Draft → Entry → Numbered Draft
entered s e = record { token = s.token; stage = with_entry s.stage e }

-- The object whose payload begins.
abbrev pub filling : Numbered Draft → Numbered Filling
filling s = record { token = s.token; stage = record { draft = s.stage; added = 0 } }

-- Whether an entry may be added: there are fewer than 32, it keeps its rules, there are 32 blocks at most with it, and it has room.
abbrev pub may_enter : Draft → Entry → List ℕ → Bool
may_enter d e buf = (nat_lt d.entries 32 && entry_fits (most_blocks d.carrier) d.blocks e) && (nat_le (d.tally + e.count) 32 && lies (24 + 8 * d.entries) 8 buf)

-- What adding an entry answers and leaves: it is added after those before it, or nothing changes.
abbrev pub Enters : Numbered Draft → Entry → List ℕ → Result (Numbered Draft) (Numbered Draft) → List ℕ → Type 0
Enters s e buf (Ok r) after = (may_enter s.stage e buf ≡ true) × (r ≡ entered s e) × (after ≡ put_mid (24 + 8 * s.stage.entries) 8 buf (entry_bytes e))
Enters s e buf (Err r) after = (may_enter s.stage e buf ≡ false) × (r ≡ s) × (after ≡ buf)

-- The object with a payload block more.
abbrev pub with_block : Numbered Filling → Numbered Filling
with_block s = record { token = s.token; stage = record { draft = s.stage.draft; added = s.stage.added + 1 } }

-- Whether a payload block may be added: one is missing, it has 512 bytes, and it has room.
abbrev pub may_add : Draft → ℕ → List ℕ → List ℕ → Bool
may_add d added block buf = nat_lt added d.tally && (length block == 512 && lies (payload_offset d.entries added) 512 buf)

-- What adding a payload block answers and leaves: it is added after those before it, or nothing changes.
abbrev pub Adds : Numbered Filling → List ℕ → List ℕ → Result (Numbered Filling) (Numbered Filling) → List ℕ → Type 0
Adds s block buf (Ok r) after = (may_add s.stage.draft s.stage.added block buf ≡ true) × (r ≡ with_block s) × (after ≡ put_mid (payload_offset s.stage.draft.entries s.stage.added) 512 buf block)
Adds s block buf (Err r) after = (may_add s.stage.draft s.stage.added block buf ≡ false) × (r ≡ s) × (after ≡ buf)

-- The header of an object that is built.
abbrev pub draft_header : ℕ → Draft → Header
draft_header number d = record { kind = carrier_kind d.carrier; number = number; first = d.first; entries = d.entries; tally = d.tally }

-- Whether an object may be closed: it has an entry, no block is missing, and its bytes lie in the buffer.
abbrev pub may_close : Draft → ℕ → List ℕ → Bool
may_close d added buf = nat_le 1 d.entries && (added == d.tally && lies 0 (payload_offset d.entries d.tally) buf)

-- The object that is closed.
abbrev pub closed : Numbered Filling → Numbered Complete
closed s = record { token = s.token; stage = record { length = payload_offset s.stage.draft.entries s.stage.draft.tally } }

-- What closing answers and leaves: the header stands at the front, or nothing changes.
abbrev pub Closes : Numbered Filling → List ℕ → Result (Numbered Complete) (Numbered Filling) → List ℕ → Type 0
Closes s buf (Ok c) after = (may_close s.stage.draft s.stage.added buf ≡ true) × (c ≡ closed s) × (after ≡ put_mid 0 24 buf (header_bytes (draft_header s.token.number s.stage.draft)))
Closes s buf (Err f) after = (may_close s.stage.draft s.stage.added buf ≡ false) × (f ≡ s) × (after ≡ buf)

-- Whether a checkpoint may be built: it is valid under its number, and its bytes lie in the buffer.
abbrev pub may_checkpoint : ℕ → ℕ → ℕ → List (Extent Place) → List ℕ → Bool
may_checkpoint number first blocks table buf = valid blocks number (checkpoint number first blocks table) && lies 0 (24 + 16 * length table) buf

-- The same, by one test after another.
abbrev pub checkpoint_ready : ℕ → ℕ → ℕ → List (Extent Place) → List ℕ → Bool
checkpoint_ready number first blocks table buf =
    (disk_size blocks && (nat_le 1 number && (nat_le (length table) 1024 && nat_lt first (2 ^ 40)))) && (lies 0 (24 + 16 * length table) buf && chained number blocks no_extent table)

-- The checkpoint that is built.
abbrev pub checkpointed : NumberToken → ℕ → Numbered Complete
checkpointed t entries = record { token = t; stage = record { length = 24 + 16 * entries } }

-- What building a checkpoint answers and leaves: its bytes stand at the front, or nothing changes.
abbrev pub Checkpoints : NumberToken → ℕ → ℕ → List (Extent Place) → List ℕ → Result (Numbered Complete) NumberToken → List ℕ → Type 0
Checkpoints t first blocks table buf (Ok c) after =
    (may_checkpoint t.number first blocks table buf ≡ true) × (c ≡ checkpointed t (length table))
    × (after ≡ put_mid 0 (24 + 16 * length table) buf (written (checkpoint t.number first blocks table)))
Checkpoints t first blocks table buf (Err u) after = (may_checkpoint t.number first blocks table buf ≡ false) × (u ≡ t) × (after ≡ buf)
