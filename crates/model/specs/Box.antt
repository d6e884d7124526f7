-- The box characters of a sheet, each under its own shape (Unicode block 2500, Box Drawing), and the two that fill.
use Rattle.std.specs.Prelude.{ℕ}

abbrev pub ─ : ℕ
─ = 0x2500

abbrev pub │ : ℕ
│ = 0x2502

abbrev pub ┌ : ℕ
┌ = 0x250C

abbrev pub ┐ : ℕ
┐ = 0x2510

abbrev pub └ : ℕ
└ = 0x2514

abbrev pub ┘ : ℕ
┘ = 0x2518

abbrev pub ├ : ℕ
├ = 0x251C

abbrev pub ┤ : ℕ
┤ = 0x2524

abbrev pub ┬ : ℕ
┬ = 0x252C

abbrev pub ┴ : ℕ
┴ = 0x2534

abbrev pub ┼ : ℕ
┼ = 0x253C

abbrev pub ═ : ℕ
═ = 0x2550

abbrev pub ║ : ℕ
║ = 0x2551

abbrev pub ╞ : ℕ
╞ = 0x255E

abbrev pub ╟ : ℕ
╟ = 0x255F

abbrev pub ╡ : ℕ
╡ = 0x2561

abbrev pub ╢ : ℕ
╢ = 0x2562

abbrev pub ╤ : ℕ
╤ = 0x2564

abbrev pub ╥ : ℕ
╥ = 0x2565

abbrev pub ╧ : ℕ
╧ = 0x2567

abbrev pub ╨ : ℕ
╨ = 0x2568

abbrev pub ╪ : ℕ
╪ = 0x256A

abbrev pub ╫ : ℕ
╫ = 0x256B

abbrev pub ╬ : ℕ
╬ = 0x256C

abbrev pub ░ : ℕ
░ = 0x2591

abbrev pub blank : ℕ
blank = 0x20

abbrev pub line_feed : ℕ
line_feed = 0x0A
