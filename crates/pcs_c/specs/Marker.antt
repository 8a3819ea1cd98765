-- What C gets of the markers.
use Rattle.std.specs.Prelude.{◌≡◌, ℕ, ◌<◌, ◌≤◌, List}
use Rattle.marker_table.specs.Markers.{marker_octets}

-- the marker of a lane, where there is such a lane
abbrev pub IsMarkerOf : ℕ → List ℕ → List ℕ → ℕ → Type 0
IsMarkerOf lane old new status = (lane < 16 → (status ≡ 0) × (new ≡ marker_octets lane)) × (16 ≤ lane → (status ≡ 1) × (new ≡ old))
