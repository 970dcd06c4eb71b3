-- The classes that a claim takes.
use Rattle.std.specs.Prelude.{List, [], ◌∷◌}
use Rattle.rg_base.specs.declared.session.Class.{Class}
use Rattle.rg_base.specs.declared.session.Class.TheVariants.{Reader, Writer}

-- a claim of Writer brings Reader
abbrev pub classes_of : Class → List Class
classes_of Reader = Reader ∷ []
classes_of Writer = Reader ∷ Writer ∷ []
