-- How a row is written: as words, which one space parts from each other.
use Rattle.std.specs.Prelude.{ℕ, ◌==◌, Bool, if◌then◌else◌, List, [], ◌∷◌}
use Rattle.std.specs.Fmt.{decimal}
use Rattle.std.specs.List.{list_all}
use Rattle.rg_base.specs.declared.row.Row.{Row}

abbrev pub is_dashes : List ℕ → Bool
is_dashes text = list_all (λ b. b == 45) text

-- A text is one word. One made only of `-`, the empty one included, is written with one `-` more;
-- any other as it is.
abbrev pub text_word : List ℕ → List ℕ
text_word text = if is_dashes text then 45 ∷ text else text

abbrev pub row_words : Row → List (List ℕ)
row_words row = decimal row.key ∷ decimal row.clus ∷ decimal row.cat ∷ text_word row.text ∷ []
