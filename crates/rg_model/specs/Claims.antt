-- Claims and drains. That a drain asks the holders of a class to leave and keeps new ones out is
-- what the Db2 utilities' manual says of them.
-- (1) Every statement but COMMIT and ROLLBACK needs Reader; INSERT, UPDATE and DELETE need Writer
--     too.
-- (2) A statement is refused if and only if a drain, asked or granted, covers a class that it needs
--     and that its session does not hold. So a session that holds a class goes on.
-- (3) A statement that is answered with number 0 registers the classes that it needs. They are held
--     to the end of the unit.
-- (4) A drain is granted only where no session holds a class that it covers.
use Rattle.std.specs.Prelude.{ℕ, ◌&&◌, ◌||◌, Bool, true, false, not, List, [], ◌∷◌, Option, Some}
use Rattle.std.specs.Prelude.{None, filter}
use Rattle.std.specs.FinMap as map
use Rattle.std.specs.List.{list_any}
use Rattle.rg_base.specs.declared.options.DrainFor.{DrainFor}
use Rattle.rg_base.specs.declared.options.DrainFor.TheVariants.{Writers, All}
use Rattle.rg_base.specs.declared.options.DrainState.{DrainState}
use Rattle.rg_base.specs.declared.options.DrainState.TheVariants.{Free, Asked, Granted}
use Rattle.rg_base.specs.declared.session.Class.{Class}
use Rattle.rg_base.specs.declared.session.Class.TheVariants.{Reader, Writer}
use Rattle.rg_base.specs.declared.session.Session.{Session}
use Rattle.rg_stmt.specs.declared.stmt.Stmt.{Stmt}
use Rattle.rg_stmt.specs.declared.stmt.Stmt.TheVariants.{Insert, Update, Delete, Select, Scan, Find}
use Rattle.rg_stmt.specs.declared.stmt.Stmt.TheVariants.{Commit, Rollback}
use Rattle.rg_model.specs.State.{State, Claims}

-- every statement but the end of a unit needs Reader; one that writes needs Writer too
abbrev pub classes_needed : Stmt → List Class
classes_needed (Insert row) = Reader ∷ Writer ∷ []
classes_needed (Update row) = Reader ∷ Writer ∷ []
classes_needed (Delete key) = Reader ∷ Writer ∷ []
classes_needed (Select key) = Reader ∷ []
classes_needed (Scan lo hi) = Reader ∷ []
classes_needed (Find cat) = Reader ∷ []
classes_needed Commit = []
classes_needed Rollback = []

-- a drain for WRITERS covers Writer, one for ALL covers both classes
abbrev pub is_covered_for : DrainFor → Class → Bool
is_covered_for Writers Reader = false
is_covered_for Writers Writer = true
is_covered_for All class = true

-- an asked drain covers what a granted one does
abbrev pub is_covered : DrainState → Class → Bool
is_covered Free class = false
is_covered (Asked what) class = is_covered_for what class
is_covered (Granted what) class = is_covered_for what class

-- Writer includes Reader
abbrev pub has_class : Option Class → Class → Bool
has_class None class = false
has_class (Some Writer) class = true
has_class (Some Reader) Reader = true
has_class (Some Reader) Writer = false

-- the drain covers one of these classes, and the claim does not have it
abbrev pub is_kept_out : DrainState → Option Class → List Class → Bool
is_kept_out drain claim classes =
    list_any (λ class. is_covered drain class && not (has_class claim class)) classes

abbrev pub is_drained : State → Session → Stmt → Bool
is_drained st session stmt =
    is_kept_out st.drain (map.get st.claims session.0) (classes_needed stmt)

abbrev pub claim_with : Option Class → Class → Class
claim_with claim Writer = Writer
claim_with None Reader = Reader
claim_with (Some class) Reader = class

-- the session has these classes too
abbrev pub claims_with : Claims → Session → List Class → Claims
claims_with claims session [] = claims
claims_with claims session (class ∷ classes) =
    claims_with (map.insert claims session.0 (claim_with (map.get claims session.0) class)) session
    classes

abbrev pub claim_classes : State → Session → List Class → State
claim_classes st session classes = record st { claims = claims_with st.claims session classes }

-- this session holds a class that the drain covers
abbrev pub is_holder : DrainState → ℕ × Class → Bool
is_holder drain claim =
    (is_covered drain Reader && has_class (Some claim.1) Reader)
    || (is_covered drain Writer && has_class (Some claim.1) Writer)

abbrev pub first_session : List (ℕ × Class) → Option Session
first_session [] = None
first_session (claim ∷ claims) = Some (record { 0 = claim.0 })

-- the least session that holds a class which the drain covers
abbrev pub least_holder : DrainState → Claims → Option Session
least_holder drain claims = first_session (filter (is_holder drain) (map.entries claims))
