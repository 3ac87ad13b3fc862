-- What is proved about the sizes of what boxes are compared by, the tests of parts, boxes that are apart, and pieces in a table.
pub mod BoxSizes
pub mod PairLaws
pub mod BoxesApart
pub mod PieceLaws
