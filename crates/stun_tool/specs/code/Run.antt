-- Which command the arguments name.
use Rattle.std.specs.Prelude.{ℕ, List, [], ◌∷◌, ◌++◌, Option, Some, None}
use Rattle.std.specs.Prelude.{codes, nat_eq, if◌then◌else◌, string_bytes}
use Rattle.std.specs.Cmp.Lexicographic.{pointwise}
use Rattle.std.specs.declared.string.String.{String}
use Rattle.std.specs.declared.alloc.Global.{Global}

-- the arguments of `check`, if the first word is that
abbrev pub words_of_check : List (String Global) → Option (List (String Global))
words_of_check [] = None
words_of_check (command ∷ others) =
    if pointwise nat_eq (string_bytes command) (codes "check") then Some others else None

-- the arguments of `schedule`, if the first word is that
abbrev pub words_of_schedule : List (String Global) → Option (List (String Global))
words_of_schedule [] = None
words_of_schedule (command ∷ others) =
    if pointwise nat_eq (string_bytes command) (codes "schedule") then Some others else None

-- the arguments of `negotiate`, if the first word is that
abbrev pub words_of_negotiate : List (String Global) → Option (List (String Global))
words_of_negotiate [] = None
words_of_negotiate (command ∷ others) =
    if pointwise nat_eq (string_bytes command) (codes "negotiate") then Some others else None

-- the arguments of `serve`, if the first word is that
abbrev pub words_of_serve : List (String Global) → Option (List (String Global))
words_of_serve [] = None
words_of_serve (command ∷ others) =
    if pointwise nat_eq (string_bytes command) (codes "serve") then Some others else None

-- the line for wrong arguments
abbrev pub usage_line : List ℕ
usage_line =
    codes "usage: stun_tool check PASSWORD "
    ++ codes "| schedule TRANSPORT INITIAL_MS MAX_MS RETRANSMITS FINAL_MS [answer MS FROM] "
    ++ codes "| negotiate CLIENT_ALGORITHMS CLIENT_FEATURE SERVER_ALGORITHMS SERVER_FEATURE "
    ++ codes "| serve REALM" ++ 10 ∷ []
