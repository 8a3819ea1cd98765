-- What `impair` writes: the header that was read, and then beats that are damaged.
use Rattle.std.specs.Prelude.{ℕ, ◌==◌, if◌then◌else◌, true, List, ◌++◌, filter, flat_map}
use Rattle.std.specs.List.{range_with_len}
use Rattle.bit_lists.specs.Places.{joined}
use Rattle.lane_impair.specs.declared.item.Item.{Item}
use Rattle.lane_impair.specs.Impairments.{beat_count, impaired, is_ready}
use Rattle.lane_impair.specs.Histories.{lanes_of, beat_at}
use Rattle.pcs_io.specs.Headers.{header_octets, header2_octets}
use Rattle.pcs_io.specs.declared.header.Header.{Header}
use Rattle.pcs_drive.specs.CaptureCommand.{CaptureText}

-- the octets of a header of either version
abbrev pub header_octets_of : Header → List ℕ
header_octets_of header =
    if header.version == 1 then header_octets header.period
    else header2_octets header.period header.skew

-- all beats of the lanes of these beats, damaged by the items
unfoldable pub impaired_octets : List Item → List (List ℕ) → List ℕ
impaired_octets items beats =
    let lanes = lanes_of beats in joined (beat_count lanes items) (beat_at (impaired lanes items))

-- those of them that are ready
unfoldable pub ready_octets : List Item → List (List ℕ) → List ℕ
ready_octets items beats =
    let lanes = lanes_of beats in
    flat_map (beat_at (impaired lanes items)) (filter (is_ready lanes items) (range_with_len 0 (beat_count lanes items)))

-- the header and the beats that are ready, and in the end the header and all beats
abbrev pub impairing : List Item → CaptureText
impairing items header = record {
  so_far = λ beats. header_octets_of header ++ ready_octets items beats;
  whole = λ beats. header_octets_of header ++ impaired_octets items beats;
  is_aligned = λ beats. true;
}
