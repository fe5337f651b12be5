-- The names of the kinds.
use Rattle.std.specs.Prelude.{ℕ, cond, List, Some, None, codes, Option}
use Rattle.std.specs.Str.{bytes_eq}
use Rattle.link.specs.declared.message.Kind.{Kind}
use Rattle.link.specs.declared.message.Kind.TheVariants.{Monitor, Suspend, Resume, Setup, Close, Yes, No, Free, BusyAgain, Connected, Failed, LetGo}

abbrev pub kind_name : Kind → List ℕ
kind_name (Monitor call) = codes "MONITOR"
kind_name Suspend = codes "SUSPEND"
kind_name Resume = codes "RESUME"
kind_name Setup = codes "SETUP"
kind_name Close = codes "CLOSE"
kind_name Yes = codes "YES"
kind_name (No cause) = codes "NO"
kind_name Free = codes "FREE"
kind_name BusyAgain = codes "BUSY-AGAIN"
kind_name Connected = codes "CONNECTED"
kind_name Failed = codes "FAILED"
kind_name LetGo = codes "LET-GO"

-- the number of the kind with this name
abbrev pub kind_named : List ℕ → Option ℕ
kind_named word =
    cond (bytes_eq word (codes "MONITOR")) (Some 1)
    (cond (bytes_eq word (codes "SUSPEND")) (Some 2)
    (cond (bytes_eq word (codes "RESUME")) (Some 3)
    (cond (bytes_eq word (codes "SETUP")) (Some 4)
    (cond (bytes_eq word (codes "CLOSE")) (Some 5)
    (cond (bytes_eq word (codes "YES")) (Some 8)
    (cond (bytes_eq word (codes "NO")) (Some 9)
    (cond (bytes_eq word (codes "FREE")) (Some 10)
    (cond (bytes_eq word (codes "BUSY-AGAIN")) (Some 11)
    (cond (bytes_eq word (codes "CONNECTED")) (Some 12)
    (cond (bytes_eq word (codes "FAILED")) (Some 13)
    (cond (bytes_eq word (codes "LET-GO")) (Some 14) None)))))))))))
