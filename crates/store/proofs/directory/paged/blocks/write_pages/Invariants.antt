use Rattle.std.proofs.Common.{◌≡◌, ◌+◌, ◌*◌, length, take, drop, vec_items, vec_len}
use lib.Seq.{paste}
use Rattle.std.specs.Slice.Iter.{chunks_rest, chunks_size, iter_rest}
use Rattle.std.specs.Iterator.Adapters.{zip_first, zip_second}
use Rattle.store.specs.PagedSound.{laid}
use Rattle.store.proofs.directory.paged.blocks.write_pages.Given as goal

-- so many parts are written, and the others follow
abbrev pub invariant-loop-part : goal.invariant-loop-part
invariant-loop-part l = record {
  size : chunks_size (zip_first l.part-iterator) ≡ 1024;
  parts : chunks_rest (zip_first l.part-iterator) ≡ drop (1024 * length l.yielded) l.bytes;
  pages : iter_rest (zip_second l.part-iterator) ≡ drop (l.first + length l.yielded) l.order;
  len : vec_len l.area ≡ vec_len l.initial.area;
  written : laid (vec_items l.area) l.order ≡ paste (laid (vec_items l.initial.area) l.order) (1024 * l.first) (take (1024 * length l.yielded) l.bytes) (length (take (1024 * length l.yielded) l.bytes));
}
