-- A name that opens all definitions of an outline's cutting, for theorems that compute with them: such a theorem says `unfolding opened_outline`.
-- The number means nothing.
use Rattle.std.specs.Prelude.{ℕ}
use Rattle.model.specs.Opened.{opened_words, opened_lists, opened_geometry, opened_format, opened_services}
use Rattle.outlines.specs.Outline.{det, doubled_area, first_where, is_zero, in_line, holds, is_ear, triangle_at, rest, onto, cutting, triangles, triangle_area, area_sum, times, crossing, crossings, is_around, on_line, off_lines, same_side, less_than, meet, doubles_back, meets_path, edge_meets, edges_meet, outline_in, count_unfit, odd_byte, out_of_range, area_unfit, cause14}
use Rattle.outlines.specs.Service.{listed, triangle_numbers, triangles_numbers, cut}

unfoldable pub opened_outline : ℕ
unfolding opened_words opened_lists opened_geometry opened_format opened_services det doubled_area first_where is_zero in_line holds is_ear triangle_at rest onto cutting triangles triangle_area area_sum times crossing crossings is_around on_line off_lines same_side less_than meet doubles_back meets_path edge_meets edges_meet outline_in count_unfit odd_byte out_of_range area_unfit cause14 listed triangle_numbers triangles_numbers cut
opened_outline = 0
