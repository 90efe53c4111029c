-- The names that most proofs cite, passed on from one place. Declares nothing.
pub use Rattle.std.proofs.Common.{List, [], arith, decimal, false, get_or, length, refl, suc, take, true, zero, ℕ, ◌*◌, ◌++◌, ◌+◌, ◌<◌, ◌^◌, ◌∙◌, ◌∷◌, ◌≡◌, ◌≢◌, ◌≤◌}
pub use Rattle.std.proofs.lemmas.Bool.Decides.{nat_tests}
pub use Rattle.std.proofs.lemmas.Fmt.{IsAscii-decimal, decimal_injective, decimal_is_IsNumeral, parse-decimal}
pub use Rattle.std.specs.List.{AllByRecursion}
pub use Rattle.hex.specs.Hex.{encode_lower}
