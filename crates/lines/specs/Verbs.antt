-- What the first field of a line names.
use Rattle.std.specs.Prelude.{◌≡◌, ℕ, List, ◌∷◌, Ok, Err, codes, Result, ◌≢◌}
use Rattle.std.specs.Borrow.{Bor}
use Rattle.fields.specs.Fields.{fields}
use Rattle.fields.specs.declared.faults.FieldFault.{FieldFault}
use Rattle.lines.specs.declared.verbs.Verb.{Verb}
use Rattle.lines.specs.declared.verbs.Verb.TheVariants.{Controllers, Set, Seal, Plans, Board, Offer, Hear}

-- the text of a first field
abbrev pub verb_text : Verb → List ℕ
verb_text Controllers = codes "controllers"
verb_text Set = codes "set"
verb_text Seal = codes "seal"
verb_text Plans = codes "plans"
verb_text Board = codes "board"
verb_text Offer = codes "offer"
verb_text Hear = codes "hear"

-- what a first field names; field 1 is at fault where it names nothing
abbrev pub NamesVerb : Bor (List ℕ) → Result Verb FieldFault → Type 0
NamesVerb field (Ok v) = field.now ≡ verb_text v
NamesVerb field (Err e) = (e.field ≡ 1) × ((v : Verb) → field.now ≢ verb_text v)

-- what the first field of a line names, and the fields after it; or field 1 is at fault, which names nothing
abbrev pub ReadsVerb : List ℕ → Result (Verb × List (List ℕ)) FieldFault → Type 0
ReadsVerb line (Ok p) = fields line ≡ verb_text p.0 ∷ p.1
ReadsVerb line (Err e) = (e.field ≡ 1) × ((v : Verb) (more : List (List ℕ)) → fields line ≢ verb_text v ∷ more)
