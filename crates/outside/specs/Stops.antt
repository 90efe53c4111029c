-- At which puts a screen in memory fails.
use Rattle.std.specs.Prelude.{ℕ, ◌==◌, List, Option}
use Rattle.std.specs.List.{find}
use Rattle.std.specs.Option.{option_map}

-- after how many bytes the put with this number fails, if it is listed: the first entry with the number counts
abbrev pub stop_of : List (ℕ × ℕ) → ℕ → Option ℕ
stop_of fails number = option_map (λ fail. fail.1) (find (λ fail. fail.0 == number) fails)
