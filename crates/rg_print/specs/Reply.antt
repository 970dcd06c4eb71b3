-- The texts of replies.
use Rattle.std.specs.Prelude.{ℕ, List, ◌∷◌, ◌++◌, length, codes, flat_map}
use Rattle.std.specs.Fmt.{decimal}
use Rattle.std.specs.List.{join_with_byte}
use Rattle.rg_base.specs.declared.row.Row.{Row}
use Rattle.rg_base.specs.Words.{row_words}
use Rattle.rg_stmt.specs.declared.stmt.Reply.{Reply}
use Rattle.rg_stmt.specs.declared.stmt.Reply.TheVariants.{Done, Found, Listed, Keyed, Absent}
use Rattle.rg_stmt.specs.declared.stmt.Reply.TheVariants.{Duplicate, Held, Victim, Drained, Full}
use Rattle.rg_stmt.specs.declared.stmt.Reply.TheVariants.{LogFull, Device, Down, NoMemory}

-- a row's words, which one space parts from each other
abbrev pub row_text : Row → List ℕ
row_text row = join_with_byte 32 (codes "ROW" ∷ row_words row)

-- a row on a line of its own, after the line before it and two spaces
abbrev pub row_line : Row → List ℕ
row_line row = codes "\n  " ++ row_text row

-- how many rows there are, and each on a line of its own
abbrev pub listed_text : List Row → List ℕ
listed_text rows = codes "ROWS " ++ decimal (length rows) ++ flat_map row_line rows

-- a key after a space
abbrev pub key_text : ℕ → List ℕ
key_text key = codes " " ++ decimal key

-- how many keys there are, and each after a space
abbrev pub keyed_text : List ℕ → List ℕ
keyed_text keys = codes "KEYS " ++ decimal (length keys) ++ codes ":" ++ flat_map key_text keys

-- Most begin with the reply's number. How much room a page or the log lacks is not printed.
abbrev pub reply_text : Reply → List ℕ
reply_text Done = codes "OK"
reply_text (Found row) = row_text row
reply_text (Listed rows) = listed_text rows
reply_text (Keyed keys) = keyed_text keys
reply_text Absent = codes "100 NONE"
reply_text Duplicate = codes "-803 DUPLICATE"
reply_text (Held session) = codes "-913 HELD " ++ decimal session.0
reply_text (Victim session) = codes "-911 VICTIM " ++ decimal session.0
reply_text Drained = codes "-904 DRAINED"
reply_text (Full need) = codes "1 FULL"
reply_text (LogFull need left) = codes "2 LOGFULL"
reply_text Device = codes "3 DEVICE"
reply_text Down = codes "4 DOWN"
reply_text NoMemory = codes "5 NOMEMORY"
