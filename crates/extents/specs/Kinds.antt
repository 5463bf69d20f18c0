-- The two kinds of target: a place in an object, and a record. Assumes nothing.
use Rattle.std.specs.Prelude.{◌≡◌, ℕ, ◌+◌, ◌*◌, ◌^◌, Bool, true, ◌&&◌, ◌==◌, nat_lt, refl}
use Rattle.std.proofs.Common.{ap, ◌∙◌, arith}
use Rattle.std.proofs.lemmas.Bool.{and_parts, and_from, eqb-true, eq-eqb, ltb-true, lt-ltb}
use Rattle.extents.specs.Laws.{Laws}
use Rattle.extents.specs.declared.target.Place.{Place}
use Rattle.extents.specs.declared.target.Record.{Record}

-- The place of a byte offset in an object.
abbrev pub place : ℕ → ℕ → Place
place o k = record { object = o; offset = k }

-- A block has 512 bytes, so a place n blocks on is 512 · n bytes on.
abbrev pub place_advanced : Place → ℕ → Place
place_advanced p n = place p.object (p.offset + 512 * n)

-- Whether two places have the same object and the same offset.
abbrev pub place_same : Place → Place → Bool
place_same p q = p.object == q.object && p.offset == q.offset

-- Whether a place's offset fits 32 bits.
abbrev pub place_fits : Place → Bool
place_fits p = nat_lt p.offset (2 ^ 32)

-- The record of a number.
abbrev pub recorded : ℕ → Record
recorded n = record { number = n }

-- A record n blocks on is n records on.
abbrev pub record_advanced : Record → ℕ → Record
record_advanced r n = recorded (r.number + n)

-- Whether two records have the same number.
abbrev pub record_same : Record → Record → Bool
record_same r s = r.number == s.number

-- Whether a record's number fits 64 bits.
abbrev pub record_fits : Record → Bool
record_fits r = nat_lt r.number (2 ^ 64)

equal_places : (p q : Place) → place_same p q ≡ true → p ≡ q
equal_places p q h =
    let both = and_parts (p.object == q.object) (p.offset == q.offset) h in
    ap (λ o. place o p.offset) (eqb-true _ _ both.0) ∙ ap (place q.object) (eqb-true _ _ both.1)

-- Places keep the laws.
pub place_laws : Laws place_advanced place_same place_fits
place_laws = record {
  none = λ p. ap (place p.object) (omega arith);
  twice = λ p i j. ap (place p.object) (omega arith);
  alike = equal_places;
  itself = λ p. and_from _ _ (eq-eqb p.object p.object refl) (eq-eqb p.offset p.offset refl);
  narrows = λ p n h. let l = ltb-true (p.offset + 512 * n) (2 ^ 32) h in lt-ltb _ _ (omega arith);
}

-- Records keep the laws.
pub record_laws : Laws record_advanced record_same record_fits
record_laws = record {
  none = λ r. ap recorded (omega arith);
  twice = λ r i j. ap recorded (omega arith);
  alike = λ r s h. ap recorded (eqb-true _ _ h);
  itself = λ r. eq-eqb r.number r.number refl;
  narrows = λ r n h. let l = ltb-true (r.number + n) (2 ^ 64) h in lt-ltb _ _ (omega arith);
}
