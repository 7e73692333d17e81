use Rattle.std.proofs.Common.{refl}
use Rattle.std.specs.Float.Ieee.{of_fields, of_bits, to_bits, is_nan}
use Rattle.std.specs.Fmt.{digits}
use Rattle.awd_bodies.specs.Fields.{numbers}
use Rattle.awd_blocks.specs.Blocks.{kind_body, body_of}
use Rattle.awd_session.specs.Asked.{asked}
use Rattle.awd_examples.proofs.worked_examples.Goals as goal

pub returns : goal.returns
unfolding digits of_fields of_bits to_bits is_nan numbers kind_body body_of asked
returns c =
    record {
      sound = refl;
      revision_0 = refl;
      empty = refl;
      eleven_bytes = refl;
      awe = refl;
      bwe = refl;
      version_3 = refl;
      revision_2 = refl;
      compression_1 = refl;
      body_164 = refl;
      body_163 = refl;
      body_163_streaming = refl;
      widths_of_document = refl;
      widths_of_block = refl;
      parts = record {
        name = refl;
        no_properties = refl;
        no_user_list = refl;
        container_62 = refl;
        three_properties = refl;
        total_22 = refl;
        total_20 = refl;
        total_15 = refl;
        outermost = refl;
        report_of_entry = refl;
        signed_byte = refl;
        type_11 = refl;
        type_2_of_1 = refl;
        text_of_2 = refl;
        next_attribute = refl;
        no_more = refl;
        next_fault = refl;
        minus_7 = refl;
        least_of_16_bits = refl;
        most_of_32_bits = refl;
        unsigned = refl;
        yes = refl;
        no_answer = refl;
        colour = refl;
        text_is_no_number = refl;
        three_bytes = refl;
      };
      documents = record {
        bytes_176 = refl;
        listed = refl;
        bytes_65536 = refl;
        bytes_65537 = refl;
        empty = refl;
        awe = refl;
        no_blocks = refl;
        no_block = refl;
        body_163 = refl;
        streaming = refl;
        size_64 = refl;
        bytes_left_over = refl;
        size_62 = refl;
        own_parent = refl;
        vertex_2 = refl;
        vertex_3 = refl;
        temporary = refl;
        id_3 = refl;
        compressed = refl;
        not_open = refl;
        too_many = refl;
        opened = refl;
        one = refl;
        two = refl;
        three = refl;
        no_more = refl;
        and_stays = refl;
        end_at_176 = refl;
        all_read = refl;
        told = refl;
        unnamed = refl;
        record_3 = refl;
        id_2 = refl;
        id_0 = refl;
        id_9 = refl;
        path_of_mesh = refl;
        path_of_container = refl;
        path_of_carried = refl;
        path_of_none = refl;
        material_0 = refl;
        cell_0 = refl;
        cell_12 = refl;
        cell_of_carried = refl;
        lamp = refl;
        cell_1 = refl;
        material_2 = refl;
        no_material = refl;
        material_behind = refl;
        lamp_taken = refl;
        primitive_as_material = refl;
        foreign_taken = refl;
        foreign_told = refl;
        own_widths_taken = refl;
        own_cell = refl;
      };
      edits = record {
        reparent_1 = refl;
        reparent_3 = refl;
        reparent_2 = refl;
        reparent_0 = refl;
        bytes_108 = refl;
        source_108 = refl;
        told_0 = refl;
        path_0 = refl;
        undone = refl;
        as_before = refl;
        bytes_undone = refl;
        path_1 = refl;
        nothing_to_undo = refl;
        undo_not_open = refl;
        reparent_carried = refl;
        reparent_no_block = refl;
        reparent_not_open = refl;
        after_refusal = refl;
        dress_bare = refl;
        dress_container = refl;
        dress_0 = refl;
        dress_2 = refl;
        dress_1 = refl;
        dress_behind = refl;
        material_0 = refl;
        first_material = refl;
        material_2 = refl;
        nudge = refl;
        nudged = refl;
        nudge_narrow = refl;
        nudge_12 = refl;
        nudge_no_number = refl;
        nudge_narrow_no_number = refl;
        nudge_carried = refl;
        nudge_wide = refl;
        nudge_again = refl;
        cell_twice = refl;
        cell_once = refl;
        bytes_once = refl;
        back_to_once = refl;
        edit_256 = refl;
        edit_257 = refl;
        refused_first = refl;
        undo_256 = refl;
      };
    }
