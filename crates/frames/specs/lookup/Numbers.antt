-- What the functions that number the frames answer.
use Rattle.std.specs.Prelude.{false, List, ◌≡◌, ℕ, ◌+◌, ◌/◌, ◌%◌, ◌≤◌, ◌<◌, length, get_or, set, Option, None, Some}
use Rattle.model.specs.Geometry.{contains_of}
use Rattle.model.specs.declared.Rect.{Rect}
use Rattle.frames.specs.regions.Corners.{corner_in, NextCorner}
use Rattle.frames.specs.regions.Regions.{Finder}
use Rattle.frames.specs.lookup.Lookup.{first_of, number_of}
use Rattle.frames.specs.declared.lookup.Sought.{Sought}

-- what stands past the end of a run of rects
abbrev pub none : Rect
none = record { left = 0; top = 0; right = 0; bottom = 0 }

-- the first n rects end at or above a row
abbrev pub Above : List Rect → ℕ → ℕ → Type 0
Above rs n row = (j : ℕ) → j < n → (get_or rs j none).bottom ≤ row

-- none of the first n rects contains a frame
abbrev pub Without : List Rect → ℕ → Rect → Type 0
Without rs n f = (j : ℕ) → j < n → contains_of (get_or rs j none) f ≡ false

-- the same of a frame, if there is one
abbrev pub WithoutAny : List Rect → ℕ → Option Rect → Type 0
WithoutAny rs n None = Unit {0}
WithoutAny rs n (Some f) = Without rs n f

-- the number of a frame that was sought: that of the first rect that contains it, or how many rects there are
abbrev pub number_in : List Rect → Option Rect → ℕ
number_in rs None = length rs
number_in rs (Some f) = first_of rs f

-- the next corner from place i on, the row under it, and the frame that starts there, which ends below that row
pub record Seen (find : Finder) (d : List ℕ) (w size i : ℕ) (s : Sought) : Type 0 where
  pub next : NextCorner (corner_in d) size i s.at
  pub under : s.under ≡ s.at / w + 1
  pub ends : (f : Rect) → s.frame ≡ Some f → s.under < f.bottom
  pub frame : s.at < size → (rs : List Rect) → number_in rs s.frame ≡ number_of find rs (s.at % w) (s.at / w)

-- the number of a frame is stored where it starts, and k is the place behind it; past the last place there is none
pub record Stored (at n size : ℕ) (d out : List ℕ) (k : ℕ) : Type 0 where
  pub put : at < size → (out ≡ set d at n) × (k ≡ at + 1)
  pub past : size ≤ at → (out ≡ d) × (k ≡ size)
