mod Trees
mod Words
