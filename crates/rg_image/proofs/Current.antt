-- The current copy, one record on, and a number that is raised to the pages of parts.
use Rattle.std.proofs.Common.{◌≡◌, ◌≤◌, ℕ, List, [], ◌∷◌, ◌++◌, max, refl, arith}
use Rattle.rg_base.specs.declared.part.Part.{Part}
use Rattle.rg_image.specs.Meaning.{Current, current_after, current_from, raised}
use Rattle.rg_record.specs.declared.record.Record.{Record}

pub current_more : (now : Current) (rs : List Record) (entry : Record)
    → current_from now (rs ++ entry ∷ []) ≡ current_after (current_from now rs) entry.kind
current_more now [] entry = refl
current_more now (r ∷ rs) entry = current_more (current_after now r.kind) rs entry

pub raised_least : (parts : List Part) (pages : ℕ) → pages ≤ raised pages parts
raised_least [] pages = omega arith
raised_least (x ∷ parts) pages = omega (arith, raised_least parts (max pages x.page))
