-- The claims of specs/Cases.antt, by computing the definitions. Assumes nothing.
use mathlib.Core.Path.{refl}
use mathlib.Core.Option.{bind}
use Rattle.octets.specs.Numbers.{be_number}
use Rattle.message.specs.Cases.{NamesHold, NameCases, RecordCases, MessageCases}
use Rattle.message.specs.Message.{questions_end, records, sections, wrong_among, outline}
use Rattle.message.specs.Name.{past_labels, labels_end, terminator, name_end}
use Rattle.message.specs.Record.{question_end, record_at}

pub names_hold : NamesHold
names_hold =
    record {
      ends = λ x. refl;
      ends_not = refl;
      whole = λ x. refl;
      cut = refl;
      malformed_is_6 = refl;
      wrong_is_7 = refl;
      without = refl;
      with_one = λ x. refl;
    }

pub name_cases : NameCases
unfolding name_end labels_end past_labels terminator
name_cases =
    record {
      root = refl;
      one_label = refl;
      mid_message = refl;
      pointer = refl;
      last_pointer = refl;
      label_pointer = refl;
      not_followed = refl;
      pointer_cut = refl;
      nothing = refl;
      at_the_end = refl;
      no_end = refl;
      label_past = refl;
      label_just_past = refl;
      many_labels = refl;
      every_byte = refl;
    }

pub record_cases : RecordCases
unfolding question_end record_at bind name_end labels_end past_labels terminator be_number
record_cases =
    record {
      question = refl;
      question_cut = refl;
      question_name = refl;
      places = refl;
      root_owner = refl;
      rooted = refl;
      pointed = refl;
      long_data = refl;
      data_cut = refl;
      fixed_cut = refl;
      owner_cut = refl;
    }

pub message_cases : MessageCases
unfolding outline sections questions_end records wrong_among question_end record_at bind name_end labels_end past_labels terminator be_number
message_cases =
    record {
      counts = refl;
      counts_an = refl;
      counts_ns = refl;
      counts_ar = refl;
      empty = refl;
      asked = refl;
      asked_twice = refl;
      each_section = refl;
      no_message = refl;
      no_header = refl;
      no_question = refl;
      no_answer = refl;
      no_authority = refl;
      no_additional = refl;
      one_of_two = refl;
      cut_record = refl;
      left_over = refl;
      left_over_question = refl;
      left_over_record = refl;
      left_over_byte = refl;
      the_one = refl;
      the_first = refl;
      the_last = refl;
      behind_sections = refl;
      other_type = refl;
      type_is_2_bytes = refl;
      next_type = refl;
      in_answer = refl;
      in_authority = refl;
      last_before = refl;
      in_both = refl;
      foreign_owner = refl;
      pointer_owner = refl;
      foreign_first = refl;
      foreign_second = refl;
      second = refl;
      second_later = refl;
      third = refl;
      response_opt = refl;
      response_in_answer = refl;
      response_foreign = refl;
      response_second = refl;
      response_over = refl;
      six_first = refl;
      six_first_over = refl;
    }
