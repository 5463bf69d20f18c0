-- What the calls of a store do to what it means.
use Rattle.std.specs.Prelude.{◌≡◌, ℕ, ◌+◌, ◌-◌, ◌<◌, ◌≤◌, Bool, false, cond, ◌&&◌, List, [], ◌∷◌, ◌++◌, length, get_or, take, drop, Some, None, Ok, Err, Option, Result, nat_le, slice_index_or}
use Rattle.std.specs.Option.{unwrap_or, option_map, ok_or}
use Rattle.std.specs.List.{remove}
use Rattle.store.specs.declared.fault.StoreFault.{StoreFault}
use Rattle.store.specs.declared.fault.StoreFault.TheVariants.{Length, Taken, Crowded, Full, Absent, PastEnd}
use Rattle.store.specs.declared.fault.MakeFault.{MakeFault}
use Rattle.store.specs.declared.fault.MakeFault.TheVariants.{Range, Memory}
use Rattle.store.specs.Views.{nothing, StoreView, holding, has, bytes_of, place, place_all, without, load, taken, chosen, bits}

-- The number that a refusal is known by.
abbrev pub fault_number : StoreFault → ℕ
fault_number Length = 1
fault_number Taken = 2
fault_number Crowded = 3
fault_number Full = 4
fault_number Absent = 5
fault_number PastEnd = 6

-- Refused exactly where a refusal is due, with that one and all as before; else all as done.
abbrev pub Outcome : {X : Type 0} → Option StoreFault → Result (Unit {0}) StoreFault → X → X → X → Type 0
Outcome due (Ok _) before done after = (due ≡ None) × (after ≡ done)
Outcome due (Err e) before done after = (due ≡ Some e) × (after ≡ before)

-- Whether an object may be so long.
abbrev pub lawful_length : ℕ → Bool
lawful_length n = nat_le 1 n && nat_le n 16664

-- The refusal that a put is due, if any: the first that applies.
abbrev pub put_refusal : StoreView → ℕ → List ℕ → Option StoreFault
put_refusal v n bs =
    cond (lawful_length (length bs))
    (cond (taken v n) (Some Taken)
    (cond (nat_le 8 (length v.pending)) (Some Crowded)
    (cond (nat_le (load v + v.weight (length bs)) v.capacity) None (Some Full))))
    (Some Length)

-- One put more at the end of the pending ones.
abbrev pub putting : StoreView → ℕ → List ℕ → StoreView
putting v n bs = holding v v.landed (v.pending ++ (n, bs) ∷ [])

-- What put does.
abbrev pub Put : StoreView → ℕ → List ℕ → Result (Unit {0}) StoreFault → StoreView → Type 0
Put v n bs r w = Outcome (put_refusal v n bs) r v (putting v n bs) w

-- The i-th pending put lands.
abbrev pub landing : StoreView → ℕ → StoreView
landing v i = holding v (place (slice_index_or v.pending i nothing) v.landed) (remove v.pending i)

-- Pending put i landed, and its number is the answer.
pub record Lands (v : StoreView) (i n : ℕ) (w : StoreView) : Type 0 where
  pub there : i < length v.pending
  pub number : n ≡ (get_or v.pending i nothing).0
  pub after : w ≡ landing v i

-- Some pending put landed, and its number is the answer.
pub record LandsOne (v : StoreView) (n : ℕ) (w : StoreView) : Type 0 where
  pub which : ℕ
  pub lands : Lands v which n w

-- What poll does: nothing exactly where nothing is pending; else one of the pending lands, whichever.
abbrev pub Polled : StoreView → Option ℕ → StoreView → Type 0
Polled v None w = (v.pending ≡ []) × (w ≡ v)
Polled v (Some n) w = LandsOne v n w

-- What poll does where pending put i is the one that lands.
abbrev pub PolledAt : ℕ → StoreView → Option ℕ → StoreView → Type 0
PolledAt i v None w = (v.pending ≡ []) × (w ≡ v)
PolledAt i v (Some n) w = Lands v i n w

-- The turn of the oldest of so many pending puts, and of the newest.
abbrev pub oldest_turn : ℕ → ℕ
oldest_turn n = 0

abbrev pub newest_turn : ℕ → ℕ
newest_turn n = n - 1

-- What poll does where the pending put whose turn it is lands.
abbrev pub PolledInTurn : (ℕ → ℕ) → StoreView → Option ℕ → StoreView → Type 0
PolledInTurn turn v r w = PolledAt (turn (length v.pending)) v r w

-- What poll does where the oldest pending put lands.
abbrev pub PolledOldest : StoreView → Option ℕ → StoreView → Type 0
PolledOldest v r w = PolledInTurn oldest_turn v r w

-- What poll does where the newest pending put lands.
abbrev pub PolledNewest : StoreView → Option ℕ → StoreView → Type 0
PolledNewest v r w = PolledInTurn newest_turn v r w

-- What size answers: the length of a landed object.
abbrev pub sized : StoreView → ℕ → Result ℕ StoreFault
sized v n = ok_or (option_map length (bytes_of v.landed n)) Absent

-- The refusal that getting so many bytes from there on is due, if any.
abbrev pub get_refusal : StoreView → ℕ → ℕ → ℕ → Option StoreFault
get_refusal v n from count = elim (bytes_of v.landed n) [ None ↦ Some Absent | Some bs ↦ cond (nat_le (from + count) (length bs)) None (Some PastEnd) ]

-- So many bytes of a landed object from there on.
abbrev pub part : StoreView → ℕ → ℕ → ℕ → List ℕ
part v n from count = take count (drop from (unwrap_or (bytes_of v.landed n) []))

-- What get does to the caller's bytes.
abbrev pub Got : StoreView → ℕ → ℕ → List ℕ → Result (Unit {0}) StoreFault → List ℕ → Type 0
Got v n from before r after = Outcome (get_refusal v n from (length before)) r before (part v n from (length before)) after

-- The refusal that a delete is due, if any.
abbrev pub delete_refusal : StoreView → ℕ → Option StoreFault
delete_refusal v n = cond (has v.landed n) None (Some Absent)

-- The object with the number is gone.
abbrev pub deleting : StoreView → ℕ → StoreView
deleting v n = holding v (without v.landed n) v.pending

-- What delete does.
abbrev pub Deleted : StoreView → ℕ → Result (Unit {0}) StoreFault → StoreView → Type 0
Deleted v n r w = Outcome (delete_refusal v n) r v (deleting v n) w

-- Each pending put whose choice is true has landed whole, the others have vanished.
abbrev pub settling : StoreView → List Bool → StoreView
settling v cs = holding v (place_all (chosen cs v.pending) v.landed) []

-- Pending put i has vanished.
abbrev pub vanishing : StoreView → ℕ → StoreView
vanishing v i = holding v v.landed (remove v.pending i)

-- What a cut leaves: one choice for each pending put, whichever.
pub record CutTo (v w : StoreView) : Type 0 where
  pub choices : List Bool
  pub each : length choices ≡ length v.pending
  pub after : w ≡ settling v choices

-- What a cut leaves where put i survives exactly if bit i of s is 1.
abbrev pub CutBy : ℕ → StoreView → StoreView → Type 0
CutBy s v w = w ≡ settling v (bits s (length v.pending))

-- A store in which nothing is landed or pending.
abbrev pub empty_store : (ℕ → ℕ) → ℕ → StoreView
empty_store w c = record { landed = []; pending = []; weight = w; capacity = c }

-- What making a store of a capacity of 1 to a limit does: an empty one; refused for its range exactly where that is wrong, and else only for want of memory.
abbrev pub Made : {S : Type 0} → (S → StoreView) → (ℕ → ℕ) → ℕ → ℕ → Result S MakeFault → Type 0
Made meaning w limit c (Ok s) = (1 ≤ c) × (c ≤ limit) × (meaning s ≡ empty_store w c)
Made meaning w limit c (Err Range) = (nat_le 1 c && nat_le c limit) ≡ false
Made meaning w limit c (Err Memory) = (1 ≤ c) × (c ≤ limit)
