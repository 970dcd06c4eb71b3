use Rattle.std.specs.Prelude.{ℕ, None}
use Rattle.rg_base.specs.declared.session.Session.{Session}
use Rattle.rg_stmt.specs.declared.event.Actor.TheVariants as actors
use Rattle.rg_stmt.specs.declared.event.Entry.{Entry}
use Rattle.rg_stmt.specs.declared.event.Event.TheVariants.{Opened, Said}
use Rattle.rg_stmt.specs.declared.stmt.Reply.{Reply}
use Rattle.rg_stmt.specs.declared.stmt.Stmt.{Stmt}

-- the entry of an opening: the system makes it, and no operator call is made
abbrev pub opened_entry : ℕ → ℕ → ℕ → ℕ → ℕ → Entry
opened_entry copy rows pages used calls =
    record {
      actor = actors.System;
      event = Opened copy rows pages used;
      answer = None;
      calls = calls;
    }

-- the entry of a statement: its session makes it, and no operator call is made
abbrev pub said_entry : Session → Stmt → Reply → ℕ → Entry
said_entry session stmt reply calls =
    record { actor = actors.Session session; event = Said stmt reply; answer = None; calls = calls }
